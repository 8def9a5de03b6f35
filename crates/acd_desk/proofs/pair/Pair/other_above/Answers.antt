use Rattle.std.proofs.Common.{◌≡◌, ℕ, Option, is_some, rules}
use Rattle.acd_desk.proofs.Archives.BothReads.{both_and, both_fault, both_then_fault, both_archive, if_archive}
use Rattle.acd_desk.proofs.Archives.Overlaps.{above_all}
use Rattle.acd_desk.proofs.pair.Pair.other_above.Goals as goal

pub returns-in_err-kept-clause-read : goal.returns-in_err-kept-clause-read
returns-in_err-kept-clause-read g c = both_fault {T = Option ℕ} c.in_err-kept.ensures.read (search rules)

pub returns-in_err-moment-clause-read : goal.returns-in_err-moment-clause-read
returns-in_err-moment-clause-read g c = both_then_fault c.in_ok-kept.ensures.read c.in_err-moment.ensures.read (search rules)

pub returns-in_err-of_archive-clause-read : goal.returns-in_err-of_archive-clause-read
returns-in_err-of_archive-clause-read g c =
    both_then_fault (both_and c.in_ok-kept.ensures.read c.in_ok-moment.ensures.read)
    (both_archive c.stamp_of_moment-event.ensures.read c.in_err-of_archive.ensures) (search rules)

pub returns-clause-read : goal.returns-clause-read
returns-clause-read g c =
    above_all
    (both_and (both_and c.in_ok-kept.ensures.read c.in_ok-moment.ensures.read) (both_archive c.stamp_of_moment-event.ensures.read c.in_ok-of_archive.ensures))
    (if_archive (λ (found : Option ℕ). is_some found ≡ is_some c.in_ok-moment.moment) c.stamp_of_moment-event.result c.in_ok-of_archive.field-0
    c.in_ok-of_archive.ensures c.stamp_of_moment-event.ensures.same)
    c.earlier.ensures
