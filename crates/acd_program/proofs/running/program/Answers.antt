use Rattle.std.proofs.Common.{inl, inr, refl, map}
use Rattle.acd_lines.specs.Lines.{streams, output}
use Rattle.acd_program.proofs.Commands.Exits.{at_most_six, task_success, task_differs, task_early, task_again, task_refused, task_elsewhere, task_done, task_ended, none_success, none_odd, none_refused, none_untaken, none_done, none_ended, none_elsewhere}
use Rattle.acd_program.proofs.running.program.Goals as goal

pub returns-in-Ok-clause-success : goal.returns-in-Ok-clause-success
returns-in-Ok-clause-success g c = task_success (output g.E.Write.contents c.args.errors.now c.run.new.errors) c.number.result c.run.result c.number.ensures c.run.ensures.printed

pub returns-in-Ok-clause-differs : goal.returns-in-Ok-clause-differs
returns-in-Ok-clause-differs g c = task_differs (output g.E.Write.contents c.args.errors.now c.run.new.errors) c.number.result c.run.result c.number.ensures c.run.ensures.printed

pub returns-in-Ok-clause-early : goal.returns-in-Ok-clause-early
returns-in-Ok-clause-early g c = task_early (output g.E.Write.contents c.args.errors.now c.run.new.errors) c.number.result c.run.result c.number.ensures c.run.ensures.printed

pub returns-in-Ok-clause-again : goal.returns-in-Ok-clause-again
returns-in-Ok-clause-again g c = task_again (output g.E.Write.contents c.args.errors.now c.run.new.errors) c.number.result c.run.result c.number.ensures c.run.ensures.printed

pub returns-in-Ok-clause-refused : goal.returns-in-Ok-clause-refused
returns-in-Ok-clause-refused g c = task_refused _ (map g.S.AsStr.text c.args.words.now) c.in-Ok.task c.in-Ok.ensures.task (streams g.R.Read.remaining g.W.Write.contents (c.args.reader.now, c.run.new.reader) (c.args.writer.now, c.run.new.writer)) (output g.E.Write.contents c.args.errors.now c.run.new.errors) c.number.result _ c.run.result c.number.ensures c.run.ensures.exits

pub returns-in-Ok-clause-untaken : goal.returns-in-Ok-clause-untaken
returns-in-Ok-clause-untaken g c = task_refused _ (map g.S.AsStr.text c.args.words.now) c.in-Ok.task c.in-Ok.ensures.task (streams g.R.Read.remaining g.W.Write.contents (c.args.reader.now, c.run.new.reader) (c.args.writer.now, c.run.new.writer)) (output g.E.Write.contents c.args.errors.now c.run.new.errors) c.number.result _ c.run.result c.number.ensures c.run.ensures.exits

pub returns-in-Ok-clause-known : goal.returns-in-Ok-clause-known
returns-in-Ok-clause-known g c = at_most_six c.number.result c.run.result c.number.ensures

pub returns-in-Ok-clause-done : goal.returns-in-Ok-clause-done
returns-in-Ok-clause-done g c = task_done _ (map g.S.AsStr.text c.args.words.now) c.in-Ok.task c.in-Ok.ensures.task (streams g.R.Read.remaining g.W.Write.contents (c.args.reader.now, c.run.new.reader) (c.args.writer.now, c.run.new.writer)) (output g.E.Write.contents c.args.errors.now c.run.new.errors) c.number.result c.run.result c.number.ensures c.run.ensures.exits

pub returns-in-Ok-clause-ended : goal.returns-in-Ok-clause-ended
returns-in-Ok-clause-ended g c = task_ended _ (map g.S.AsStr.text c.args.words.now) c.in-Ok.task c.in-Ok.ensures.task (streams g.R.Read.remaining g.W.Write.contents (c.args.reader.now, c.run.new.reader) (c.args.writer.now, c.run.new.writer)) (output g.E.Write.contents c.args.errors.now c.run.new.errors) c.number.result c.run.result c.number.ensures c.run.ensures.exits

pub returns-in-Ok-clause-elsewhere : goal.returns-in-Ok-clause-elsewhere
returns-in-Ok-clause-elsewhere g c = task_elsewhere (output g.E.Write.contents c.args.errors.now c.run.new.errors) c.number.result _ c.run.result c.number.ensures c.run.ensures.elsewhere

pub returns-clause-success : goal.returns-clause-success
returns-clause-success g c = none_success (map g.S.AsStr.text c.args.words.now) _ c.in-Err.ensures.refused (streams g.R.Read.remaining g.W.Write.contents (c.args.reader.now, c.args.reader.now) (c.args.writer.now, c.print_error.new.writer)) refl (output g.W.Write.contents c.args.writer.now c.print_error.new.writer) (output g.E.Write.contents c.args.errors.now c.print_error.new.errors) (λ same. same) c.number-in-Err.result c.print_error.result c.number-in-Err.ensures c.print_error.ensures

pub returns-clause-differs : goal.returns-clause-differs
returns-clause-differs g c = λ three. none_odd (map g.S.AsStr.text c.args.words.now) _ c.in-Err.ensures.refused (streams g.R.Read.remaining g.W.Write.contents (c.args.reader.now, c.args.reader.now) (c.args.writer.now, c.print_error.new.writer)) refl (output g.W.Write.contents c.args.writer.now c.print_error.new.writer) (output g.E.Write.contents c.args.errors.now c.print_error.new.errors) (λ same. same) c.number-in-Err.result _ c.print_error.result c.number-in-Err.ensures c.print_error.ensures (inl three)

pub returns-clause-early : goal.returns-clause-early
returns-clause-early g c = λ five. none_odd (map g.S.AsStr.text c.args.words.now) _ c.in-Err.ensures.refused (streams g.R.Read.remaining g.W.Write.contents (c.args.reader.now, c.args.reader.now) (c.args.writer.now, c.print_error.new.writer)) refl (output g.W.Write.contents c.args.writer.now c.print_error.new.writer) (output g.E.Write.contents c.args.errors.now c.print_error.new.errors) (λ same. same) c.number-in-Err.result _ c.print_error.result c.number-in-Err.ensures c.print_error.ensures (inr (inl five))

pub returns-clause-again : goal.returns-clause-again
returns-clause-again g c = λ six. none_odd (map g.S.AsStr.text c.args.words.now) _ c.in-Err.ensures.refused (streams g.R.Read.remaining g.W.Write.contents (c.args.reader.now, c.args.reader.now) (c.args.writer.now, c.print_error.new.writer)) refl (output g.W.Write.contents c.args.writer.now c.print_error.new.writer) (output g.E.Write.contents c.args.errors.now c.print_error.new.errors) (λ same. same) c.number-in-Err.result _ c.print_error.result c.number-in-Err.ensures c.print_error.ensures (inr (inr six))

pub returns-clause-refused : goal.returns-clause-refused
returns-clause-refused g c = none_refused (map g.S.AsStr.text c.args.words.now) _ c.in-Err.ensures.refused (streams g.R.Read.remaining g.W.Write.contents (c.args.reader.now, c.args.reader.now) (c.args.writer.now, c.print_error.new.writer)) refl (output g.W.Write.contents c.args.writer.now c.print_error.new.writer) (output g.E.Write.contents c.args.errors.now c.print_error.new.errors) (λ same. same) c.number-in-Err.result c.print_error.result c.number-in-Err.ensures c.print_error.ensures

pub returns-clause-untaken : goal.returns-clause-untaken
returns-clause-untaken g c = none_untaken (map g.S.AsStr.text c.args.words.now) _ c.in-Err.ensures.refused (streams g.R.Read.remaining g.W.Write.contents (c.args.reader.now, c.args.reader.now) (c.args.writer.now, c.print_error.new.writer)) refl (output g.W.Write.contents c.args.writer.now c.print_error.new.writer) (output g.E.Write.contents c.args.errors.now c.print_error.new.errors) (λ same. same) c.number-in-Err.result c.print_error.result c.number-in-Err.ensures c.print_error.ensures

pub returns-clause-known : goal.returns-clause-known
returns-clause-known g c = at_most_six c.number-in-Err.result c.print_error.result c.number-in-Err.ensures

pub returns-clause-done : goal.returns-clause-done
returns-clause-done g c = none_done (map g.S.AsStr.text c.args.words.now) _ c.in-Err.ensures.refused (streams g.R.Read.remaining g.W.Write.contents (c.args.reader.now, c.args.reader.now) (c.args.writer.now, c.print_error.new.writer)) refl (output g.W.Write.contents c.args.writer.now c.print_error.new.writer) (output g.E.Write.contents c.args.errors.now c.print_error.new.errors) (λ same. same) c.number-in-Err.result _ c.print_error.result c.number-in-Err.ensures c.print_error.ensures

pub returns-clause-ended : goal.returns-clause-ended
returns-clause-ended g c = none_ended (map g.S.AsStr.text c.args.words.now) _ c.in-Err.ensures.refused (streams g.R.Read.remaining g.W.Write.contents (c.args.reader.now, c.args.reader.now) (c.args.writer.now, c.print_error.new.writer)) refl (output g.W.Write.contents c.args.writer.now c.print_error.new.writer) (output g.E.Write.contents c.args.errors.now c.print_error.new.errors) (λ same. same) c.number-in-Err.result _ c.print_error.result c.number-in-Err.ensures c.print_error.ensures

pub returns-clause-elsewhere : goal.returns-clause-elsewhere
returns-clause-elsewhere g c = none_elsewhere (map g.S.AsStr.text c.args.words.now) _ c.in-Err.ensures.refused (streams g.R.Read.remaining g.W.Write.contents (c.args.reader.now, c.args.reader.now) (c.args.writer.now, c.print_error.new.writer)) refl (output g.W.Write.contents c.args.writer.now c.print_error.new.writer) (output g.E.Write.contents c.args.errors.now c.print_error.new.errors) (λ same. same) c.number-in-Err.result _ c.print_error.result c.number-in-Err.ensures c.print_error.ensures
