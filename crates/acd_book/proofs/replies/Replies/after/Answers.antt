use Rattle.std.proofs.Common.{List, slice_get, subst, sym, ap, ◌∙◌}
use Rattle.acd_book.specs.Content.{IsKeptAfter}
use Rattle.acd_book.specs.declared.kept.Kept.{Kept}
use Rattle.acd_book.proofs.NumberedLists.{kept_after_at}
use Rattle.acd_book.proofs.replies.Replies.after.Goals as goal

pub returns : goal.returns
returns c =
    let s = c.args.self.now in
    let found = c.record_at.ensures ∙ ap (λ (kept : List Kept). slice_get kept c.args.stamp) c.deref.ensures.value in
    subst (IsKeptAfter s.records.items c.args.stamp) (sym found) (kept_after_at c.args.stamp s.records.items s.numbered)
