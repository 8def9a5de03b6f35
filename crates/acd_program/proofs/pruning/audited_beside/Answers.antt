use Rattle.std.proofs.Common.{sym, subst}
use Rattle.acd_sessions.specs.Over.{OnlyAsked}
use Rattle.acd_program.specs.Archives.Pruning.{AskedBoth}
use Rattle.acd_program.specs.Archives.WithArchive.{IsFindingInOrder}
use Rattle.acd_sessions.proofs.Asking.{only_left, only_refused, only_read}
use Rattle.acd_program.proofs.Archives.Prunes.{audited_both}
use Rattle.acd_program.proofs.Archives.ReadsOn.{only_if}
use Rattle.acd_program.proofs.pruning.audited_beside.Goals as goal

pub returns-in-Err : goal.returns-in-Err
returns-in-Err g c = (
  only_left (g.A.Book.state c.args.archive.now),
  only_refused _ _ _ c.in-Err.ensures,
)

pub returns-in-Ok-audited_with_archive : goal.returns-in-Ok-audited_with_archive
returns-in-Ok-audited_with_archive g c =
    let old_archive : _ = g.A.Book.state c.args.archive.now in
    let new_archive : _ = g.A.Book.state c.audited_with_archive.new.archive in
    let old : _ = g.B.Book.state c.args.book in
    subst (λ (b : _). AskedBoth IsFindingInOrder old_archive new_archive old (g.B.Book.state b) c.in-Ok-audited_with_archive.found) (sym c.close.ensures)
    (audited_both old_archive new_archive old _ _ c.in-Ok-audited_with_archive.found c.in-Ok.ensures
    c.in-Ok-audited_with_archive.ensures.read c.in-Ok-audited_with_archive.ensures.archive c.in-Ok-audited_with_archive.ensures.found)

pub returns-in-Err-audited_with_archive : goal.returns-in-Err-audited_with_archive
returns-in-Err-audited_with_archive g c = (
  only_if (g.A.Book.state c.args.archive.now) (g.A.Book.state c.audited_with_archive.new.archive) _ c.in-Err-audited_with_archive.ensures.archive,
  subst (λ (b : _). OnlyAsked (g.B.Book.state c.args.book) (g.B.Book.state b)) (sym c.close-in-Err-audited_with_archive.ensures)
      (only_read (g.B.Book.state c.args.book) _ _ _ _ c.in-Ok.ensures c.in-Err-audited_with_archive.ensures.read),
)
