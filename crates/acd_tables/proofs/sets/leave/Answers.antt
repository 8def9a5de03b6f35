use Rattle.std.proofs.Common.{sym}
use Rattle.acd_tables.proofs.SetLemmas.{set-written}
use Rattle.acd_tables.proofs.sets.leave.Goals as goal

pub returns-in-Some : goal.returns-in-Some
returns-in-Some g c =
    set-written g.K.Ord.cmp g.E.Ord.cmp g.met.K.Ord.total c.args.sets.now c.args.key _ c.args.member _ c.in-Some.set.now c.remove.new.self
    (sym c.in-Some.ensures.value) (λ here. ((c.get_mut.follows.holds c.remove.new.self).3 here).0) c.remove.ensures.updates.0
