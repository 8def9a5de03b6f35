use Rattle.std.proofs.Common.{sym, subst}
use Rattle.acd_sessions.specs.Over.{OnlyAsked}
use Rattle.acd_sessions.proofs.Asking.{only_refused, only_read}
use Rattle.acd_program.proofs.desk.read_text.Goals as goal

pub returns-in-Err-clause-kept : goal.returns-in-Err-clause-kept
returns-in-Err-clause-kept g c = only_refused _ _ _ c.in-Err.ensures

pub returns-in-Ok-text_of-clause-kept : goal.returns-in-Ok-text_of-clause-kept
returns-in-Ok-text_of-clause-kept g c =
    subst (λ (b : _). OnlyAsked (g.B.Book.state c.args.book) (g.B.Book.state b)) (sym c.close.ensures) (only_read (g.B.Book.state c.args.book) _ _ _ _ c.in-Ok.ensures c.in-Ok-text_of.ensures)

pub returns-in-Err-text_of-clause-kept : goal.returns-in-Err-text_of-clause-kept
returns-in-Err-text_of-clause-kept g c =
    subst (λ (b : _). OnlyAsked (g.B.Book.state c.args.book) (g.B.Book.state b)) (sym c.close-in-Err-text_of.ensures) (only_read (g.B.Book.state c.args.book) _ _ _ _ c.in-Ok.ensures c.in-Err-text_of.ensures)
