use Rattle.std.proofs.Common.{rules}
use Rattle.acd_desk.proofs.Archives.BothReads.{both_fault, current_read}
use Rattle.acd_desk.proofs.Archives.Overlaps.{place_found}
use Rattle.acd_desk.proofs.pair.Pair.other_place.Goals as goal

pub returns-in_err-cut-clause-read : goal.returns-in_err-cut-clause-read
returns-in_err-cut-clause-read g c = both_fault (current_read c.cut_of.ensures c.in_err-cut.ensures) (search rules)

pub returns-clause-read : goal.returns-clause-read
returns-clause-read g c = place_found (current_read c.cut_of.ensures c.in_ok-cut.ensures) c.other_above.ensures.read
