use Rattle.std.proofs.Common.{inl, inr, refl, sym, subst}
use Rattle.acd_desk.specs.Desks.DeskState.{state_of}
use Rattle.acd_program.specs.Commands.Ended.{IsBegunPlan}
use Rattle.acd_program.specs.Commands.Work.{ImportsOver}
use Rattle.acd_sessions.proofs.Asking.{only_refused}
use Rattle.acd_program.proofs.Commands.Ended.{begun_by}
use Rattle.acd_program.proofs.Commands.Works.{imports_over}
use Rattle.acd_program.proofs.desk.imported.Goals as goal

pub returns-in-Ok-import-clause-result : goal.returns-in-Ok-import-clause-result
returns-in-Ok-import-clause-result g c =
    let old_output : _ = g.W.Write.contents c.args.writer.now in
    let new_output : _ = g.W.Write.contents c.import.new.writer in
    subst (λ (b : _). ImportsOver c.args.requests.now (g.B.Book.state c.args.book) old_output new_output (g.B.Book.state b)) (sym c.close.ensures)
    (imports_over (g.B.Book.state c.args.book) (state_of g.B.Book c.in-Ok.desk) (state_of g.B.Book c.import.new.desk) c.args.requests.now old_output new_output c.in-Ok.ensures c.in-Ok-import.ensures.answered)

pub returns-in-Err-clause-result : goal.returns-in-Err-clause-result
returns-in-Err-clause-result g c = inl (only_refused _ _ _ c.in-Err.ensures, refl)

pub returns-in-Err-import-clause-result : goal.returns-in-Err-import-clause-result
returns-in-Err-import-clause-result g c =
    let old_output : _ = g.W.Write.contents c.args.writer.now in
    let new_output : _ = g.W.Write.contents c.import.new.writer in
    inr (subst (λ (b : _). IsBegunPlan c.args.requests.now old_output new_output (g.B.Book.state c.args.book) (g.B.Book.state b)) (sym c.close-in-Err-import.ensures)
    (begun_by (g.B.Book.state c.args.book) (state_of g.B.Book c.in-Ok.desk) (state_of g.B.Book c.import.new.desk) c.args.requests.now old_output new_output c.in-Ok.ensures c.in-Err-import.ensures.answered))
