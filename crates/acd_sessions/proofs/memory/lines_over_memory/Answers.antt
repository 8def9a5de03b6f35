use Rattle.std.proofs.Common.{Err, inl, inr, refl, ap, ◌∙◌}
use Rattle.std.proofs.lemmas.Result.{err_from_is_err_and}
use Rattle.acd_sessions.proofs.memory.lines_over_memory.Goals as goal

pub returns-in_err-desk : goal.returns-in_err-desk
returns-in_err-desk g c = let p = err_from_is_err_and c.from_residual.result c.from_residual.ensures.1 in inl (p.1 ∙ ap Err p.2, (refl {a = c.args.reader.now}, refl {a = c.args.writer.now}))

pub returns : goal.returns
returns g c = inr (record { first = c.in_ok-desk.desk; final = c.answer_lines.new.desk; opened = c.in_ok-desk.ensures; did = c.answer_lines.ensures })
