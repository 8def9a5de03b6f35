use Rattle.std.proofs.Common.{refl, sym, subst}
use Rattle.acd_program.specs.Commands.Work.{WasAsked, IsFindingIfOrdered}
use Rattle.acd_program.proofs.Commands.BookReads.{audited_by}
use Rattle.acd_sessions.specs.Over.{OnlyAsked}
use Rattle.acd_sessions.proofs.Asking.{only_refused, only_read}
use Rattle.acd_program.proofs.desk.audit.Goals as goal

pub returns-in-Ok-audited-clause-over : goal.returns-in-Ok-audited-clause-over
returns-in-Ok-audited-clause-over g c = (
  c.in-Ok-audited.ensures.counted,
  subst (λ (b : _). WasAsked (g.B.Book.state c.args.book) IsFindingIfOrdered c.in-Ok-audited.found (g.B.Book.state b)) (sym c.close.ensures)
      (audited_by (g.B.Book.state c.args.book) _ _ c.in-Ok-audited.found c.in-Ok.ensures c.in-Ok-audited.ensures.read c.in-Ok-audited.ensures.found),
  refl,
)

pub returns-in-Err-clause-kept : goal.returns-in-Err-clause-kept
returns-in-Err-clause-kept g c = only_refused _ _ _ c.in-Err.ensures

pub returns-in-Ok-audited-clause-kept : goal.returns-in-Ok-audited-clause-kept
returns-in-Ok-audited-clause-kept g c =
    subst (λ (b : _). OnlyAsked (g.B.Book.state c.args.book) (g.B.Book.state b)) (sym c.close.ensures)
    (only_read (g.B.Book.state c.args.book) _ _ _ _ c.in-Ok.ensures c.in-Ok-audited.ensures.read)

pub returns-in-Err-audited-clause-kept : goal.returns-in-Err-audited-clause-kept
returns-in-Err-audited-clause-kept g c =
    subst (λ (b : _). OnlyAsked (g.B.Book.state c.args.book) (g.B.Book.state b)) (sym c.close-in-Err-audited.ensures)
    (only_read (g.B.Book.state c.args.book) _ _ _ _ c.in-Ok.ensures c.in-Err-audited.ensures.read)
