use Rattle.std.proofs.Common.{inl, refl, sym, subst, MatchResult}
use Rattle.std.proofs.lemmas.Result.{IfOk-weaker}
use Rattle.acd_program.specs.Commands.Ended.{StoppedOver}
use Rattle.acd_program.specs.Commands.Work.{IsFindingIfOrdered, WorkDone}
use Rattle.acd_command.specs.declared.asked.Work.{Work}
use Rattle.acd_files.proofs.Ends.{match_of, match_with}
use Rattle.acd_program.proofs.desk.over_book.Goals as goal

pub returns-in-Import-clause-result : goal.returns-in-Import-clause-result
returns-in-Import-clause-result g c =
    let a : _ = g.W.Write.contents c.args.writer.now in
    let b : _ = g.W.Write.contents c.imported.new.writer in
    let old : _ = g.B.Book.state c.args.book in
    let new : _ = g.B.Book.state c.imported.result.1 in
    subst
    (λ (w : Work). MatchResult c.imported.result.0 (λ (done : _). WorkDone IsFindingIfOrdered w old a b done new) (λ (fault : _). StoppedOver w a b old new))
    (sym c.in-Import.is)
    (match_with c.imported.result.0 _ _ _ c.imported.ensures.result c.imported.ensures.nothing)

pub returns-in-Print-clause-result : goal.returns-in-Print-clause-result
returns-in-Print-clause-result g c =
    let a : _ = g.W.Write.contents c.args.writer.now in
    let old : _ = g.B.Book.state c.args.book in
    let new : _ = g.B.Book.state c.read_text.result.1 in
    subst
    (λ (w : Work). MatchResult c.read_text.result.0 (λ (done : _). WorkDone IsFindingIfOrdered w old a a done new) (λ (fault : _). StoppedOver w a a old new))
    (sym c.in-Print.is)
    (match_of c.read_text.result.0 _ _ (IfOk-weaker c.read_text.result.0 _ _ (λ done h. (h, refl)) c.read_text.ensures.over)
    (λ fault. inl (c.read_text.ensures.kept, refl)))

pub returns-in-Audit-clause-result : goal.returns-in-Audit-clause-result
returns-in-Audit-clause-result g c =
    let a : _ = g.W.Write.contents c.args.writer.now in
    let old : _ = g.B.Book.state c.args.book in
    let new : _ = g.B.Book.state c.audit.result.1 in
    subst
    (λ (w : Work). MatchResult c.audit.result.0 (λ (done : _). WorkDone IsFindingIfOrdered w old a a done new) (λ (fault : _). StoppedOver w a a old new))
    (sym c.in-Audit.is)
    (match_of c.audit.result.0 _ _ (IfOk-weaker c.audit.result.0 _ _ (λ done h. (h, refl)) c.audit.ensures.over) (λ fault. inl (c.audit.ensures.kept, refl)))
