use Rattle.std.proofs.Common.{refl, inr, Err, Ok}
use Rattle.sqlite_std_file.specs.File.{IsFresh}
use Rattle.acd_lines.specs.Lines.{streams}
use Rattle.acd_command.specs.declared.asked.Task.TheVariants as task
use Rattle.acd_files.proofs.Ends.{match_so}
use Rattle.acd_program.proofs.Commands.Printed.{file_prints, standby_prints}
use Rattle.acd_program.specs.Commands.Tasks.{endless}
use Rattle.acd_program.proofs.Commands.Tasks.{read_done, whole_done}
use Rattle.acd_program.proofs.Commands.TasksEnded.{task_ends, err_elsewhere}
use Rattle.acd_program.proofs.running.execute.Goals as goal

pub returns-in-Lines-clause-result : goal.returns-in-Lines-clause-result
returns-in-Lines-clause-result g c =
    task_ends _ IsFresh c.answer_lines.result c.args.task (streams g.R.Read.remaining g.W.Write.contents (c.args.reader.now, c.answer_lines.new.reader) (c.args.writer.now, c.answer_lines.new.writer)) _ _
    (task.Lines c.in-Lines.file c.in-Lines.reads c.in-Lines.ends) c.in-Lines.is (match_so c.answer_lines.result _ _ _ _ (λ status h. h) (λ fault h. (refl, h)) c.answer_lines.ensures)

pub returns-in-Ok-clause-result : goal.returns-in-Ok-clause-result
returns-in-Ok-clause-result g c =
    task_ends _ IsFresh (Ok _) c.args.task (streams g.R.Read.remaining g.W.Write.contents (c.args.reader.now, c.args.reader.now) (c.args.writer.now, c.serve_file.new.writer))
    (g.E.Write.contents c.args.errors.now) (g.E.Write.contents c.serve_file.new.errors) (task.Serve c.in-Serve.file c.in-Serve.address c.in-Serve.span) c.in-Serve.is (c.in-Ok.ensures, refl)

pub returns-in-Err-clause-result : goal.returns-in-Err-clause-result
returns-in-Err-clause-result g c =
    task_ends _ IsFresh (Err c.in-Err.fault) c.args.task (streams g.R.Read.remaining g.W.Write.contents (c.args.reader.now, c.args.reader.now) (c.args.writer.now, c.serve_file.new.writer))
    (g.E.Write.contents c.args.errors.now) (g.E.Write.contents c.serve_file.new.errors) (task.Serve c.in-Serve.file c.in-Serve.address c.in-Serve.span) c.in-Serve.is (refl, c.in-Err.ensures)

pub returns-in-Ok-clause-printed : goal.returns-in-Ok-clause-printed
returns-in-Ok-clause-printed g c =
    inr (refl, file_prints IsFresh c.in-Serve.span (g.E.Write.contents c.args.errors.now) (g.E.Write.contents c.serve_file.new.errors) c.in-Ok.ensures)

pub returns-in-Ok-stand_by_file-clause-result : goal.returns-in-Ok-stand_by_file-clause-result
returns-in-Ok-stand_by_file-clause-result g c =
    task_ends _ IsFresh (Ok _) c.args.task (streams g.R.Read.remaining g.W.Write.contents (c.args.reader.now, c.stand_by_file.new.reader) (c.args.writer.now, c.stand_by_file.new.writer))
    (g.E.Write.contents c.args.errors.now) (g.E.Write.contents c.stand_by_file.new.errors) (task.Standby c.in-Standby.file c.in-Standby.address c.in-Standby.step c.in-Standby.patience) c.in-Standby.is (c.in-Ok-stand_by_file.ensures, refl)

pub returns-in-Err-stand_by_file-clause-result : goal.returns-in-Err-stand_by_file-clause-result
returns-in-Err-stand_by_file-clause-result g c =
    task_ends _ IsFresh (Err c.in-Err-stand_by_file.fault) c.args.task (streams g.R.Read.remaining g.W.Write.contents (c.args.reader.now, c.stand_by_file.new.reader) (c.args.writer.now, c.stand_by_file.new.writer))
    (g.E.Write.contents c.args.errors.now) (g.E.Write.contents c.stand_by_file.new.errors) (task.Standby c.in-Standby.file c.in-Standby.address c.in-Standby.step c.in-Standby.patience) c.in-Standby.is c.in-Err-stand_by_file.ensures

pub returns-in-Ok-stand_by_file-clause-printed : goal.returns-in-Ok-stand_by_file-clause-printed
returns-in-Ok-stand_by_file-clause-printed g c =
    inr (
      refl,
      standby_prints IsFresh (endless c.in-Standby.step c.in-Standby.patience) c.in-Standby.address (streams g.R.Read.remaining g.W.Write.contents (c.args.reader.now, c.stand_by_file.new.reader) (c.args.writer.now, c.stand_by_file.new.writer))
          (g.E.Write.contents c.args.errors.now) (g.E.Write.contents c.stand_by_file.new.errors) c.in-Ok-stand_by_file.ensures,
    )

pub returns-in-Import-clause-result : goal.returns-in-Import-clause-result
returns-in-Import-clause-result g c =
    task_ends _ IsFresh c.import_plan.result c.args.task (streams g.R.Read.remaining g.W.Write.contents (c.args.reader.now, c.args.reader.now) (c.args.writer.now, c.import_plan.new.writer)) _ _
    (task.Import c.in-Import.file c.in-Import.plan) c.in-Import.is (match_so c.import_plan.result _ _ _ _ (λ status h. h) (λ fault h. (refl, refl, h)) c.import_plan.ensures)

pub returns-in-AuditWhole-clause-result : goal.returns-in-AuditWhole-clause-result
returns-in-AuditWhole-clause-result g c =
    let io : _ = streams g.R.Read.remaining g.W.Write.contents (c.args.reader.now, c.args.reader.now) (c.args.writer.now, c.audit_whole.new.writer) in
    task_ends _ IsFresh c.audit_whole.result c.args.task io _ _ (task.AuditWhole c.in-AuditWhole.file c.in-AuditWhole.counts) c.in-AuditWhole.is
    (match_so c.audit_whole.result _ _ _ _ (λ status h. whole_done _ IsFresh io (g.E.Write.contents c.args.errors.now) (g.E.Write.contents c.args.errors.now) c.in-AuditWhole.file c.in-AuditWhole.counts status h) (λ fault h. (refl, refl, h)) c.audit_whole.ensures)

pub returns-in-AuditWithArchive-clause-result : goal.returns-in-AuditWithArchive-clause-result
returns-in-AuditWithArchive-clause-result g c =
    task_ends _ IsFresh c.audit_with_archive.result c.args.task (streams g.R.Read.remaining g.W.Write.contents (c.args.reader.now, c.args.reader.now) (c.args.writer.now, c.audit_with_archive.new.writer)) _ _
    (task.AuditWithArchive c.in-AuditWithArchive.file c.in-AuditWithArchive.archive c.in-AuditWithArchive.counts c.in-AuditWithArchive.whole) c.in-AuditWithArchive.is
    (match_so c.audit_with_archive.result _ _ _ _ (λ status h. h) (λ fault h. (refl, refl, h)) c.audit_with_archive.ensures)

pub returns-in-Prune-clause-result : goal.returns-in-Prune-clause-result
returns-in-Prune-clause-result g c =
    task_ends _ IsFresh c.prune_file.result c.args.task (streams g.R.Read.remaining g.W.Write.contents (c.args.reader.now, c.args.reader.now) (c.args.writer.now, c.prune_file.new.writer)) _ _
    (task.Prune c.in-Prune.file c.in-Prune.archive c.in-Prune.retention c.in-Prune.quiet) c.in-Prune.is
    (match_so c.prune_file.result _ _ _ _ (λ status h. h) (λ fault h. (refl, refl, h)) c.prune_file.ensures)

pub returns-in-ExportWithArchives-clause-result : goal.returns-in-ExportWithArchives-clause-result
returns-in-ExportWithArchives-clause-result g c =
    task_ends _ IsFresh c.export_with_archives.result c.args.task (streams g.R.Read.remaining g.W.Write.contents (c.args.reader.now, c.args.reader.now) (c.args.writer.now, c.export_with_archives.new.writer)) _ _
    (task.ExportWithArchives c.in-ExportWithArchives.file c.in-ExportWithArchives.archives) c.in-ExportWithArchives.is
    (match_so c.export_with_archives.result _ _ _ _ (λ status h. h) (λ fault h. (refl, refl, h)) c.export_with_archives.ensures)

pub returns-in-Read-clause-result : goal.returns-in-Read-clause-result
returns-in-Read-clause-result g c =
    let io : _ = streams g.R.Read.remaining g.W.Write.contents (c.args.reader.now, c.args.reader.now) (c.args.writer.now, c.work_in.new.writer) in
    task_ends _ IsFresh c.work_in.result c.args.task io _ _ (task.Read c.in-Read.file c.in-Read.work) c.in-Read.is
    (match_so c.work_in.result _ _ _ _ (λ status h. read_done _ IsFresh io (g.E.Write.contents c.args.errors.now) (g.E.Write.contents c.args.errors.now) c.in-Read.file c.in-Read.work status h) (λ fault h. (refl, refl, h)) c.work_in.ensures)

pub returns-in-Lines-clause-elsewhere : goal.returns-in-Lines-clause-elsewhere
returns-in-Lines-clause-elsewhere g c = err_elsewhere _ IsFresh _ _ _ _ _ (returns-in-Lines-clause-result g c)

pub returns-in-Err-clause-elsewhere : goal.returns-in-Err-clause-elsewhere
returns-in-Err-clause-elsewhere g c = err_elsewhere _ IsFresh (Err c.in-Err.fault) _ _ _ _ (returns-in-Err-clause-result g c)

pub returns-in-Err-stand_by_file-clause-elsewhere : goal.returns-in-Err-stand_by_file-clause-elsewhere
returns-in-Err-stand_by_file-clause-elsewhere g c = err_elsewhere _ IsFresh (Err c.in-Err-stand_by_file.fault) _ _ _ _ (returns-in-Err-stand_by_file-clause-result g c)

pub returns-in-Import-clause-elsewhere : goal.returns-in-Import-clause-elsewhere
returns-in-Import-clause-elsewhere g c = err_elsewhere _ IsFresh _ _ _ _ _ (returns-in-Import-clause-result g c)

pub returns-in-AuditWhole-clause-elsewhere : goal.returns-in-AuditWhole-clause-elsewhere
returns-in-AuditWhole-clause-elsewhere g c = err_elsewhere _ IsFresh _ _ _ _ _ (returns-in-AuditWhole-clause-result g c)

pub returns-in-AuditWithArchive-clause-elsewhere : goal.returns-in-AuditWithArchive-clause-elsewhere
returns-in-AuditWithArchive-clause-elsewhere g c = err_elsewhere _ IsFresh _ _ _ _ _ (returns-in-AuditWithArchive-clause-result g c)

pub returns-in-Prune-clause-elsewhere : goal.returns-in-Prune-clause-elsewhere
returns-in-Prune-clause-elsewhere g c = err_elsewhere _ IsFresh _ _ _ _ _ (returns-in-Prune-clause-result g c)

pub returns-in-ExportWithArchives-clause-elsewhere : goal.returns-in-ExportWithArchives-clause-elsewhere
returns-in-ExportWithArchives-clause-elsewhere g c = err_elsewhere _ IsFresh _ _ _ _ _ (returns-in-ExportWithArchives-clause-result g c)

pub returns-in-Read-clause-elsewhere : goal.returns-in-Read-clause-elsewhere
returns-in-Read-clause-elsewhere g c = err_elsewhere _ IsFresh _ _ _ _ _ (returns-in-Read-clause-result g c)
