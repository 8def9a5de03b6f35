use Rattle.std.proofs.Common.{drop}
use Rattle.acd_switch.proofs.MovesInTurn.{IsLeft}
use Rattle.acd_switch.proofs.journal.Journal.make_all.Given as goal

abbrev pub invariant-loop-one : goal.invariant-loop-one
invariant-loop-one l = IsLeft l.moment (drop l.one-index l.moves) l.tables l.self l.moves l.fn.tables l.fn.self
