use Rattle.std.proofs.Common.{rules}
use Rattle.acd_desk.proofs.Archives.BothReads.{both_opening, both_and, both_fault, both_then_fault, both_no_memory}
use Rattle.acd_desk.proofs.Archives.ArchiveReplaySteps.{archive_loaded, whole_differs, whole_begun, whole_newer}
use Rattle.acd_desk.proofs.pair.Pair.audited.Goals as goal

pub returns-in_err-loaded-clause-read : goal.returns-in_err-loaded-clause-read
returns-in_err-loaded-clause-read g c = both_fault (both_opening c.archive_switch.result c.archive_switch.ensures c.in_err-loaded.ensures) (search rules)

pub returns-in_err-other-clause-read : goal.returns-in_err-other-clause-read
returns-in_err-other-clause-read g c =
    both_then_fault (both_opening c.archive_switch.result c.archive_switch.ensures c.in_ok-loaded.ensures) c.in_err-other.ensures.read (search rules)

pub returns-in-Some-clause-read : goal.returns-in-Some-clause-read
returns-in-Some-clause-read g c =
    whole_differs
    (archive_loaded c.last_of.ensures.stamp c.last_of.ensures.number (both_opening c.archive_switch.result c.archive_switch.ensures c.in_ok-loaded.ensures))
    c.in_ok-other.ensures.read c.in-Some.is

pub returns-in_err-first-clause-read : goal.returns-in_err-first-clause-read
returns-in_err-first-clause-read g c =
    both_then_fault
    (both_and (both_opening c.archive_switch.result c.archive_switch.ensures c.in_ok-loaded.ensures) c.in_ok-other.ensures.read) both_no_memory (search rules)

pub returns-clause-read : goal.returns-clause-read
returns-clause-read g c =
    whole_newer
    (whole_begun
    (archive_loaded c.last_of.ensures.stamp c.last_of.ensures.number (both_opening c.archive_switch.result c.archive_switch.ensures c.in_ok-loaded.ensures))
    c.in_ok-other.ensures.read c.in_default.is c.in_ok-first.ensures.rows c.in_ok-first.ensures.page)
    c.audited_newer.ensures.read
