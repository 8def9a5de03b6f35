use Rattle.std.proofs.Common.{◌≡◌, ℕ, ◌+◌, ◌-◌, ◌≤◌, true, List, [], ◌∷◌, length, drop, length-drop, refl, sym, ◌∙◌, arith}
use Rattle.std.specs.declared.cmp.Ordering.{Ordering}
use Rattle.acd_terms.specs.Lists.{ascends}
use Rattle.acd_terms.proofs.keyed.ascends.Goals as goal

short_ascends : {T : Type 0} (cmp : T → T → Ordering) (xs : List T) → length xs ≤ 1 → ascends cmp xs ≡ true
short_ascends cmp [] lt = refl
short_ascends cmp (x ∷ []) lt = refl
short_ascends cmp (x ∷ y ∷ ys) lt = absurd (omega arith)

-- from the last one on, all ascend
ascends_end : {T : Type 0} (cmp : T → T → Ordering) (xs : List T) (i : ℕ) → length xs ≤ i + 1 → ascends cmp (drop i xs) ≡ true
ascends_end cmp xs i lt = short_ascends cmp (drop i xs) (omega (arith, length-drop i xs))

pub returns : goal.returns
returns g c =
    let past : length c.args.records.now ≤ c.loop-i.i - 1 + 1 = omega arith in
    sym (ascends_end (λ x y. g.R.Key.Ord.cmp (g.R.Keyed.key_of x) (g.R.Keyed.key_of y)) c.args.records.now (c.loop-i.i - 1) past) ∙ c.loop-i.invariant
