use Rattle.std.proofs.Common.{true, Ok, refl, ap, sym, ◌∙◌}
use Rattle.sqlite_std_file.specs.File.{IsFresh}
use Rattle.acd_files.proofs.Ends.{match_from, match_so}
use Rattle.acd_program.proofs.Commands.Tasks.{import_done}
use Rattle.acd_program.proofs.Commands.TasksEnded.{ended_so}
use Rattle.acd_program.proofs.running.import_plan.Goals as goal

pub returns-in_err-requests : goal.returns-in_err-requests
returns-in_err-requests g c = match_from c.from_residual.result _ _ _ c.from_residual.ensures.1 (refl, tt)

pub returns : goal.returns
returns g c =
    let is = c.in_ok-requests.ensures.1 ∙ ap Ok (sym c.deref.ensures.value) in
    match_so c.work_in.result _ _ _ _
    (λ status h.
    let done = import_done _ IsFresh (g.W.Write.contents c.args.writer.now) (g.W.Write.contents c.work_in.new.writer) status true c.deref.result h in
    (c.in_ok-requests.ensures.0, c.deref.result.now, is, done.0, done.1))
    (λ fault ended. ended_so _ IsFresh fault _ _ _ (λ why conn left. (c.in_ok-requests.ensures.0, _, is, left)) ended)
    c.work_in.ensures
