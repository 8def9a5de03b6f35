-- Orders and tests of numbers.
use Rattle.std.proofs.Common.{◌≡◌, ℕ, true, ◌&&◌, ◌==◌, refl, ◌<◌, ◌≤◌, arith}
use Rattle.std.specs.Prelude.{nat_lt}
use Rattle.std.specs.Ordering.{nat_cmp, ordering_then, is_eq}
use Rattle.std.specs.declared.cmp.Ordering.{Ordering}
use Rattle.std.specs.declared.cmp.Ordering.TheVariants.{Less, Equal, Greater}
use Rattle.std.proofs.lemmas.Bool.Decides.{nat_tests}
pub use Rattle.acd_terms.proofs.Numbers.{less_is, no_less}

pub greater_is : (g d : ℕ) → nat_cmp g d ≡ Less → nat_cmp d g ≡ Greater
greater_is g d h = grind (arith, nat_tests)

pub still_below : (a b n : ℕ) → a ≤ b → nat_lt b n ≡ true → nat_lt a n ≡ true
still_below a b n low h = grind (arith, nat_tests)

pub below_is : (n k : ℕ) → nat_lt n k ≡ true → n < k
below_is n k h = grind (arith, nat_tests)

pub eq_then : (a b : Ordering) → is_eq (ordering_then a b) ≡ (is_eq a && is_eq b)
eq_then Less b = refl
eq_then Equal b = refl
eq_then Greater b = refl

pub then_equal : (a b : Ordering) → ordering_then a b ≡ Equal → (a ≡ Equal) × (b ≡ Equal)
then_equal Equal b e = (refl, e)
then_equal _ b e = absurd (cc (e))

pub same_number : (m n : ℕ) → (m == n) ≡ true → n ≡ m
same_number m n h = grind (arith, nat_tests)
