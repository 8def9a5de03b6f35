use Rattle.std.proofs.Common.{true≢false, ap, sym, ◌∙◌}
use Rattle.std.specs.Ordering.{nat_cmp}
use Rattle.acd_tables.specs.Sets.{holds, holds_in}
use Rattle.acd_tables.proofs.Members.{some_member}
use Rattle.acd_tables.proofs.indexes.has_none.Goals as goal

pub returns-in-Some-clause-some : goal.returns-in-Some-clause-some
unfolding holds
returns-in-Some-clause-some g c e =
    let some = some_member _ g.E.Ord.cmp g.met.E.Ord.total c.in-Some.set.now (λ none. true≢false (sym (c.is_empty.ensures.1 none) ∙ e)) in
    (some.0, ap (λ o. holds_in nat_cmp g.E.Ord.cmp o some.0) (sym c.in-Some.ensures.value) ∙ some.1)
