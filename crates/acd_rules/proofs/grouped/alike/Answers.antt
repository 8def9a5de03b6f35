use Rattle.std.proofs.Common.{◌≡◌, ◌≤◌, ◌-◌, ◌∙◌, ap, true, false, length, drop, take, sym, subst, ltb, leb, rules, arith, length-drop, take_all}
use Rattle.std.specs.List.Sorted.{IsNonDecreasingBy, IsPartitionPoint}
use Rattle.std.proofs.lemmas.List.Sorted.{IsPartitionPoint-from_clause, IsPartitionedBy-ltb, IsPartitionedBy-leb, IsNonDecreasingBy-drop}
use Rattle.acd_rules.proofs.EqualNumbers.{alike}
use Rattle.acd_rules.proofs.grouped.alike.Goals as goal

pub returns : goal.returns
returns g c =
    λ key by order.
    let k = c.args.wanted in
    let xs = c.args.sorted.now in
    let from = c.partition_point-from.result in
    let len = c.partition_point-len.result in
    let rest : take (length xs - from) (drop from xs) ≡ drop from xs = take_all _ _ (omega (arith, length-drop from xs)) in
    let rest_order : IsNonDecreasingBy key (take (length xs - from) (drop from xs)) =
    subst (λ zs. IsNonDecreasingBy key zs) (sym rest) (IsNonDecreasingBy-drop key from xs order) in
    let low =
    IsPartitionPoint-from_clause (λ y. ltb (key y) k) _ _ c.partition_point-from.ensures.partitioned (IsPartitionedBy-ltb key _ k order)
    (λ a r q h. (h.met.1 key by, search rules)) in
    let high =
    IsPartitionPoint-from_clause (λ y. leb (key y) k) _ _ c.partition_point-len.ensures.partitioned (IsPartitionedBy-leb key _ k rest_order)
    (λ a r q h. (h.met.1 key by, search rules)) in
    let high_there = subst (λ zs. IsPartitionPoint (λ y. leb (key y) k ≡ true) (λ y. leb (key y) k ≡ false) zs len) rest high in
    ap (take len) rest
    ∙ alike key xs k from len c.partition_point-from.ensures.bound (subst (λ zs. len ≤ length zs) rest c.partition_point-len.ensures.bound) low high_there
