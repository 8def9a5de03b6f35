use Rattle.std.proofs.Common.{◌≡◌, ℕ, suc, List, drop, ◌∷◌, ap, sym, subst, ◌∙◌, drop-cons}
use Rattle.acd_tables.proofs.Entries.{left_more, no_longer}
use Rattle.acd_tables.proofs.indexes.without.Goals as goal

pub loop-group-preserved : goal.loop-group-preserved
loop-group-preserved c =
    let i = c.loop-group.group-index in
    let items = c.as_slice-group-items.result.now in
    let more = drop-cons items i c.group-item.result c.loop-group-test.true in
    let next =
    subst (λ (l : List ℕ). drop i l ≡ c.group-item.result ∷ drop (suc i) l) c.as_slice-group-items.ensures.value
    (more ∙ ap (λ (v : ℕ). v ∷ drop (suc i) items) (sym c.group-item.is)) in
    record {
      left =
          left_more c.args.groups.now c.args.others.now c.loop-group.left c.push_if.new.entered i c.group-item.result c.is_among-is_left.result
          c.is_among-is_left.ensures next c.push_if.ensures c.loop-group.invariant.left;
      few = no_longer _ _ _ _ _ c.push_if.ensures c.loop-group.invariant.few;
    }
