use Rattle.std.proofs.Common.{ap, ◌∙◌, ◌==◌, filter}
use Rattle.std.proofs.lemmas.List.Sorted.{IsNonDecreasingBy-from_sort}
use Rattle.acd_rules.proofs.EqualNumbers.{same_groups}
use Rattle.acd_rules.proofs.grouped.sorted.Goals as goal

pub returns : goal.returns
returns g c =
    λ key by.
    let stable = c.in_ok-sort_by_key.ensures.stable key by in (
      IsNonDecreasingBy-from_sort key _ (c.in_ok-sort_by_key.ensures.sorted key by),
      λ n. same_groups key _ _ stable n ∙ ap (filter (λ x. key x == n)) c.in_ok-sorted.ensures.items,
    )
