use Rattle.std.proofs.Common.{◌≡◌, ℕ, ◌-◌, ◌∙◌, ap, length, drop, take, sym, subst, leb, rules, arith, length-drop, take_all, List, filter, nat_lt}
use Rattle.std.specs.List.Sorted.{IsNonDecreasingBy}
use Rattle.std.proofs.lemmas.List.Sorted.{IsPartitionPoint-from_clause, IsPartitionedBy-leb}
use Rattle.acd_book.proofs.DeviceNumbers.{above_is, taken_min}
use Rattle.acd_book.proofs.numbers.Numbers.after.Goals as goal

pub returns : goal.returns
returns c =
    let xs : List ℕ = c.args.self.now.numbers.items in
    let n : ℕ = c.args.number in
    let i : ℕ = c.partition_point-place.result in
    let here = c.deref.ensures.value in
    let order : IsNonDecreasingBy (λ (y : ℕ). y) c.deref.result.now =
    subst (λ (zs : List ℕ). IsNonDecreasingBy (λ (y : ℕ). y) zs) (sym here) c.args.self.now.rise in
    let point =
    IsPartitionPoint-from_clause (λ (y : ℕ). leb y n) _ _ c.partition_point-place.ensures.partitioned (IsPartitionedBy-leb (λ (y : ℕ). y) _ n order)
    (λ a r q h. search rules) in
    let rest : take (length c.deref-2.result.now - i) (drop i c.deref-2.result.now) ≡ drop i c.deref-2.result.now =
    take_all _ _ (omega (arith, length-drop i c.deref-2.result.now)) in
    let all : drop i c.deref-2.result.now ≡ filter (nat_lt n) xs
    =
    ap (drop i) (c.deref-2.ensures.value ∙ sym here) ∙ above_is c.deref.result.now n i c.partition_point-place.ensures.bound point
    ∙ ap (filter (nat_lt n)) here in
    ap (λ (k : ℕ). take k (take (length c.deref-2.result.now - i) (drop i c.deref-2.result.now))) c.min.ensures
    ∙ taken_min c.args.limit (take (length c.deref-2.result.now - i) (drop i c.deref-2.result.now))
    ∙ ap (take c.args.limit) (rest ∙ all)
