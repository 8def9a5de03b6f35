use Rattle.std.proofs.Common.{refl}
use Rattle.sqlite_std_file.specs.File.{IsFresh}
use Rattle.acd_files.proofs.Ends.{match_from, match_so}
use Rattle.acd_program.proofs.Commands.TasksEnded.{ended_so}
use Rattle.acd_program.proofs.running.audit_whole.Goals as goal

pub returns-in_err-ending : goal.returns-in_err-ending
returns-in_err-ending g c = match_from c.from_residual.result _ _ _ c.from_residual.ensures.1 (refl, tt)

pub returns : goal.returns
returns g c =
    match_so c.work_in.result _ _ _ _ (λ status h. (c.in_ok-ending.ending, c.in_ok-ending.ensures, h))
    (λ fault ended. ended_so _ IsFresh fault _ _ _ (λ why conn left. (c.in_ok-ending.ending, c.in_ok-ending.ensures, left)) ended) c.work_in.ensures
