use Rattle.std.proofs.Common.{rules, Ok}
use Rattle.acd_desk.specs.Audits.Replay.{StepsOn, rows_of}
use Rattle.acd_desk.proofs.Archives.BothReads.{both_fault, both_then_fault, archive_read, both_current, if_current}
use Rattle.acd_desk.proofs.Archives.ArchiveReplaySteps.{replayed_both, steps_with}
use Rattle.acd_desk.proofs.pair.Pair.replayed.Goals as goal

pub returns-in_err-known-clause-read : goal.returns-in_err-known-clause-read
returns-in_err-known-clause-read g c = both_fault (archive_read c.is_known.ensures c.in_err-known.ensures) (search rules)

pub returns-in_err-played-clause-read : goal.returns-in_err-played-clause-read
returns-in_err-played-clause-read g c =
    both_then_fault (archive_read c.is_known.ensures c.in_ok-known.ensures) (both_current c.replayed.ensures.read c.in_err-played.ensures) (search rules)

pub returns-clause-read : goal.returns-clause-read
returns-clause-read g c =
    replayed_both c.args.newer c.noted-replay.ensures c.first_of_both.ensures c.with_first.ensures (archive_read c.is_known.ensures c.in_ok-known.ensures)
    (both_current c.replayed.ensures.read c.in_ok-played.ensures)

pub returns-clause-stepped : goal.returns-clause-stepped
returns-clause-stepped g c =
    steps_with c.args.newer.replay.loaded.switch.value c.args.kept.now c.noted-replay.result c.first_of_both.result c.in_ok-played.played c.with_first.result
    c.noted-replay.ensures.rows c.with_first.ensures
    (if_current (StepsOn (rows_of c.noted-replay.result) c.args.kept.now) c.replayed.result (Ok c.in_ok-played.played) c.in_ok-played.ensures
    c.replayed.ensures.stepped)
