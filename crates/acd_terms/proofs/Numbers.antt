-- Orders and tests of numbers.
use Rattle.std.proofs.Common.{◌≡◌, ℕ, ◌<◌, ◌≤◌, ◌==◌, nat_lt, true, false, List, [], ◌∷◌, refl, arith}
use Rattle.std.specs.Ordering.{nat_cmp}
use Rattle.std.specs.declared.cmp.Ordering.TheVariants.{Less, Equal}
use Rattle.std.proofs.lemmas.Bool.{and_parts}
use Rattle.std.proofs.lemmas.Bool.Decides.{nat_tests}
use Rattle.acd_terms.specs.Lists.{is_less, ascends}

pub cmp_equal : (m n : ℕ) → nat_cmp m n ≡ Equal → m ≡ n
cmp_equal m n e = grind (arith, nat_tests)

pub less_is : (a b : ℕ) → nat_cmp a b ≡ Less → a < b
less_is a b e = grind (arith, nat_tests)

pub no_less : (n m : ℕ) → nat_lt n m ≡ false → m ≤ n
no_less n m h = grind (arith, nat_tests)

pub not_zero : (n : ℕ) → 0 < n → (n == 0) ≡ false
not_zero n some = grind (arith, nat_tests)

pub eqb_self : (n : ℕ) → (n == n) ≡ true
eqb_self n = grind (arith, nat_tests)

pub eqb_swap : (m n : ℕ) → (m == n) ≡ (n == m)
eqb_swap m n = grind (arith, nat_tests)

-- the numbers after the first of numbers in order are in order
pub tail_ascends : (y : ℕ) (ys : List ℕ) → ascends nat_cmp (y ∷ ys) ≡ true → ascends nat_cmp ys ≡ true
tail_ascends y [] a = refl
tail_ascends y (z ∷ zs) a = (and_parts (is_less (nat_cmp y z)) (ascends nat_cmp (z ∷ zs)) a).1
