use Rattle.std.proofs.Common.{rules}
use Rattle.acd_desk.proofs.Replays.AuditSteps.{stamp_of_switch}
use Rattle.acd_desk.proofs.Archives.BothReads.{both_then_fault, current_read}
use Rattle.acd_desk.proofs.Archives.ArchiveReplaySteps.{next_read, step_last, step_replayed, step_differs, counts_one_with}
use Rattle.acd_desk.proofs.pair.Pair.next_newer.Goals as goal

pub returns-in_default-clause-read : goal.returns-in_default-clause-read
returns-in_default-clause-read g c =
    step_last c.deref-in_default.ensures
    (next_read c.args.newer (stamp_of_switch _ _ _ c.last_stamp-last.ensures c.deref.ensures) c.in_default.is
    (current_read c.kept_after.ensures c.in_ok-kept.ensures))
    (current_read c.is_whole.ensures c.in_ok-whole.ensures) c.answer_at_end.ensures

pub returns-in-Some-2-clause-read : goal.returns-in-Some-2-clause-read
returns-in-Some-2-clause-read g c =
    step_replayed
    (next_read c.args.newer (stamp_of_switch _ _ _ c.last_stamp-last.ensures c.deref.ensures) c.in-Some.is
    (current_read c.kept_after.ensures c.in_ok-kept.ensures))
    c.in_ok-newer.ensures.read c.in-Some-2.is c.in_ok-newer.ensures.stepped c.requires

pub returns-in-Some-2-clause-counts : goal.returns-in-Some-2-clause-counts
returns-in-Some-2-clause-counts g c =
    counts_one_with c.args.newer.replay.loaded.switch.value c.in-Some.kept c.in_ok-newer.field-0 c.in-Some-2.newer c.in-Some-2.is c.in_ok-newer.ensures.stepped

pub returns-clause-read : goal.returns-clause-read
returns-clause-read g c =
    step_differs
    (next_read c.args.newer (stamp_of_switch _ _ _ c.last_stamp-last.ensures c.deref.ensures) c.in-Some.is
    (current_read c.kept_after.ensures c.in_ok-kept.ensures))
    c.in_ok-newer.ensures.read c.in-None.is c.next_stamp-next.ensures

pub returns-in_err-whole-clause-read : goal.returns-in_err-whole-clause-read
returns-in_err-whole-clause-read g c =
    both_then_fault (current_read c.kept_after.ensures c.in_ok-kept.ensures) (current_read c.is_whole.ensures c.in_err-whole.ensures) (search rules)

pub returns-in_err-newer-clause-read : goal.returns-in_err-newer-clause-read
returns-in_err-newer-clause-read g c =
    both_then_fault (current_read c.kept_after.ensures c.in_ok-kept.ensures) c.in_err-newer.ensures.read (search rules)
