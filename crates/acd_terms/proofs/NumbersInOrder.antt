-- A number put in its place among others keeps them in order.
use Rattle.std.proofs.Common.{◌≡◌, ℕ, true, List, [], ◌∷◌, refl, sym, subst, ap, arith}
use Rattle.std.specs.Ordering.{nat_cmp, match_ordering}
use Rattle.std.specs.declared.cmp.Ordering.{Ordering}
use Rattle.std.specs.declared.cmp.Ordering.TheVariants.{Less, Equal, Greater}
use Rattle.std.proofs.lemmas.Bool.Decides.{nat_tests}
use Rattle.std.proofs.lemmas.Bool.{and_parts, and_from}
use Rattle.acd_terms.specs.Lists.{is_less, ascends, put_by}
use Rattle.acd_terms.proofs.Numbers.{cmp_equal, tail_ascends}

turned : (x y : ℕ) → nat_cmp x y ≡ Greater → nat_cmp y x ≡ Less
turned x y e = grind (arith, nat_tests)

-- one that is before the list and before the number is before both together
after : (y x : ℕ) (xs : List ℕ) → ascends nat_cmp (y ∷ xs) ≡ true → nat_cmp y x ≡ Less → ascends nat_cmp (put_by (nat_cmp x) xs x) ≡ true
    → ascends nat_cmp (y ∷ put_by (nat_cmp x) xs x) ≡ true
after y x [] a l h = and_from (is_less (nat_cmp y x)) true (ap is_less l) refl
after y x (w ∷ ws) a l h = by (nat_cmp x w) h
  where
    by : (o : Ordering) → ascends nat_cmp (match_ordering o (x ∷ w ∷ ws) (x ∷ ws) (w ∷ put_by (nat_cmp x) ws x)) ≡ true
        → ascends nat_cmp (y ∷ match_ordering o (x ∷ w ∷ ws) (x ∷ ws) (w ∷ put_by (nat_cmp x) ws x)) ≡ true
    by Less h = and_from (is_less (nat_cmp y x)) (ascends nat_cmp (x ∷ w ∷ ws)) (ap is_less l) h
    by Equal h = and_from (is_less (nat_cmp y x)) (ascends nat_cmp (x ∷ ws)) (ap is_less l) h
    by Greater h = and_from (is_less (nat_cmp y w)) (ascends nat_cmp (w ∷ put_by (nat_cmp x) ws x))
        (and_parts (is_less (nat_cmp y w)) (ascends nat_cmp (w ∷ ws)) a).0 h

pub put_ascends : (x : ℕ) (xs : List ℕ) → ascends nat_cmp xs ≡ true → ascends nat_cmp (put_by (nat_cmp x) xs x) ≡ true
put_ascends x [] a = refl
put_ascends x (y ∷ ys) a = by (nat_cmp x y) refl (put_ascends x ys (tail_ascends y ys a))
  where
    by : (o : Ordering) → nat_cmp x y ≡ o → ascends nat_cmp (put_by (nat_cmp x) ys x) ≡ true
        → ascends nat_cmp (match_ordering o (x ∷ y ∷ ys) (x ∷ ys) (y ∷ put_by (nat_cmp x) ys x)) ≡ true
    by Less q h = and_from (is_less (nat_cmp x y)) (ascends nat_cmp (y ∷ ys)) (ap is_less q) a
    by Equal q h = subst (λ (z : ℕ). ascends nat_cmp (z ∷ ys) ≡ true) (sym (cmp_equal x y q)) a
    by Greater q h = after y x ys a (turned x y q) h
