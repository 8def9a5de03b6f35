use Rattle.std.proofs.Common.{sym, ap, subst}
use Rattle.sqlite_std_file.specs.File.{IsFresh}
use Rattle.acd_sessions.specs.Over.{OnlyAsked}
use Rattle.acd_sessions.proofs.Asking.{only_refused, only_opened}
use Rattle.acd_program.proofs.Archives.AuditsWithArchive.{audits_with_archive}
use Rattle.acd_program.proofs.with_archive.audit_with_archive.Goals as goal

pub returns-in-Ok-found_with_archive-clause-over : goal.returns-in-Ok-found_with_archive-clause-over
returns-in-Ok-found_with_archive-clause-over g c =
    audits_with_archive _ IsFresh c.args.counts c.args.ending (g.B.Book.state c.args.book) (g.B.Book.state c.close.result) _ _ c.in-Ok-found_with_archive.found
    c.in-Ok.ensures c.in-Ok-found_with_archive.ensures.counted c.in-Ok-found_with_archive.ensures.asked
    (ap (λ (b : _). g.B.Book.state b) (sym c.close.ensures))

pub returns-in-Err-clause-kept : goal.returns-in-Err-clause-kept
returns-in-Err-clause-kept g c = only_refused _ _ _ c.in-Err.ensures

pub returns-in-Ok-found_with_archive-clause-kept : goal.returns-in-Ok-found_with_archive-clause-kept
returns-in-Ok-found_with_archive-clause-kept g c =
    subst (λ (b : _). OnlyAsked (g.B.Book.state c.args.book) (g.B.Book.state b)) (sym c.close.ensures)
    (only_opened (g.B.Book.state c.args.book) _ _ c.in-Ok.ensures c.in-Ok-found_with_archive.ensures.kept)

pub returns-in-Err-found_with_archive-clause-kept : goal.returns-in-Err-found_with_archive-clause-kept
returns-in-Err-found_with_archive-clause-kept g c =
    subst (λ (b : _). OnlyAsked (g.B.Book.state c.args.book) (g.B.Book.state b)) (sym c.close-in-Err-found_with_archive.ensures)
    (only_opened (g.B.Book.state c.args.book) _ _ c.in-Ok.ensures c.in-Err-found_with_archive.ensures.kept)
