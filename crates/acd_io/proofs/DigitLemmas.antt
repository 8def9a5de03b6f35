-- Digits, read one after the other.
use Rattle.std.proofs.Common.{◌≡◌, ◌==◌, ℕ, zero, suc, ◌+◌, ◌-◌, ◌*◌, ◌^◌, ◌<◌, ◌≤◌, true, false, not, if◌then◌else◌, List, [], ◌∷◌, length, take, get_or, min, Some, None, inl, inr, refl, sym, ap, ◌∙◌, arith}
use Rattle.std.proofs.lemmas.Bool.{and_parts, cases_lt, true≢false}
use Rattle.std.proofs.lemmas.Bool.Decides.{nat_tests}
use Rattle.std.proofs.lemmas.Int.Digits.{digits_value_more, digits_value-lt}
use Rattle.std.proofs.lemmas.List.Folds.{list_all_more, list_all_at}
use Rattle.std.proofs.Math.Nat.{min-eq_left, min-eq_right, pow-le-pow_right}
use Rattle.std.specs.Char.{is_ascii_digit, digit_value}
use Rattle.std.specs.List.{list_all}
use Rattle.std.specs.Str.Parse.{AllDigits, digits_value}
use Rattle.acd_io.specs.Digits.{is_number, number_up_to}

pub positive : (n : ℕ) → (n == 0) ≡ false → 0 < n
positive zero h = absurd (true≢false h)
positive (suc n) h = omega arith

value_of_digit : (x : ℕ) → is_ascii_digit x ≡ true → digit_value x ≡ x - 48
value_of_digit x h = grind (arith, nat_tests)

-- a digit more
value_more : (digits : List ℕ) (i v d : ℕ) → i < length digits → v ≡ digits_value 10 (take i digits) → is_ascii_digit (get_or digits i 0) ≡ true → d ≡ get_or digits i 0 - 48 → v * 10 + d ≡ digits_value 10 (take (i + 1) digits)
value_more digits i v d inside so_far digit is =
    let more = digits_value_more 10 digits i inside in
    let one = value_of_digit (get_or digits i 0) digit in
    omega (arith, more, one, so_far, is)

pub digits_more : (digits : List ℕ) (i : ℕ) → i < length digits → list_all is_ascii_digit (take i digits) ≡ true → is_ascii_digit (get_or digits i 0) ≡ true → list_all is_ascii_digit (take (i + 1) digits) ≡ true
digits_more digits i inside so_far digit = rw (list_all_more is_ascii_digit digits i 0 inside, so_far, digit) refl

-- ---- a number that is cut

pub cut_more : (digits : List ℕ) (i m d r : ℕ) → i < length digits → m ≡ min 1000000000000000 (digits_value 10 (take i digits)) → is_ascii_digit (get_or digits i 0) ≡ true → d ≡ get_or digits i 0 - 48 → r ≡ min 1000000000000000 (m * 10 + d)
    → r ≡ min 1000000000000000 (digits_value 10 (take (i + 1) digits))
cut_more digits i m d r h e digit is cut =
    let v = digits_value 10 (take i digits) in
    let more : v * 10 + d ≡ digits_value 10 (take (i + 1) digits) = value_more digits i v d h refl digit is in
    elim (cases_lt 1000000000000000 v) [
      | inl great ↦
          let top : min 1000000000000000 v ≡ 1000000000000000 = min-eq_left (omega arith) in
          cut ∙ min-eq_left (omega (arith, e, top)) ∙ sym (min-eq_left (omega (arith, more)))
      | inr small ↦
          let same : m ≡ v = e ∙ min-eq_right (omega arith) in
          cut ∙ ap (λ (n : ℕ). min 1000000000000000 (n * 10 + d)) same ∙ ap (min 1000000000000000) more
    ]

pub is_cut : (digits : List ℕ) (n : ℕ) → (length digits == 0) ≡ false → list_all is_ascii_digit digits ≡ true → n ≡ min 1000000000000000 (digits_value 10 digits) → Some n ≡ number_up_to digits
unfolding number_up_to
is_cut digits n some all e = rw (some, all) (ap Some e)

pub no_digits : (digits : List ℕ) → (length digits == 0) ≡ true → None ≡ number_up_to digits
unfolding number_up_to
no_digits digits h = rw h refl

pub no_digit : (digits : List ℕ) (i : ℕ) → i < length digits → is_ascii_digit (get_or digits i 0) ≡ false → None ≡ number_up_to digits
unfolding number_up_to
no_digit digits i h other =
    let some = list_all_at is_ascii_digit digits i 0 h other in
    let none : is_number digits ≡ false = grind (arith, nat_tests) in
    rw none refl

-- ---- a number of few digits

digit_small : (x : ℕ) → is_ascii_digit x ≡ true → digit_value x < 10
digit_small x digit =
    let top : x ≤ 57 = grind (arith, nat_tests) in
    omega (arith, value_of_digit x digit)

all_digits : (digits : List ℕ) → list_all is_ascii_digit digits ≡ true → AllDigits 10 digits
all_digits [] h = tt
all_digits (x ∷ xs) h = let both = and_parts (is_ascii_digit x) (list_all is_ascii_digit xs) h in (digit_small x both.0, all_digits xs both.1)

held : (v n : ℕ) → Some v ≡ Some n → n ≡ v
held v n e = cc

-- a number of at most ten digits isn't cut
pub few_digits : (digits : List ℕ) (n : ℕ) → length digits ≤ 10 → number_up_to digits ≡ Some n → (is_number digits ≡ true) × (n ≡ digits_value 10 digits)
unfolding number_up_to
few_digits digits n few e = elim (is_number digits) as (λ b. is_number digits ≡ b → (if b then Some (min 1000000000000000 (digits_value 10 digits)) else None) ≡ Some n → (is_number digits ≡ true) × (n ≡ digits_value 10 digits)) [
  | false ↦ λ is same. absurd (cc same)
  | true ↦ λ is same.
      let both = and_parts (not (length digits == 0)) (list_all is_ascii_digit digits) is in
      let below = digits_value-lt 10 digits (all_digits digits both.1) in
      let most : 10 ^ length digits ≤ 10 ^ 10 = pow-le-pow_right {n = 10} (omega arith) few in
      let small : digits_value 10 digits < 10000000000 = omega (arith, below, most) in
      (is, held (min 1000000000000000 (digits_value 10 digits)) n same ∙ min-eq_right (omega arith))
] refl e

pub no_number : (digits : List ℕ) → number_up_to digits ≡ None → is_number digits ≡ false
unfolding number_up_to
no_number digits e = elim (is_number digits) as (λ b. (if b then Some (min 1000000000000000 (digits_value 10 digits)) else None) ≡ None → b ≡ false) [
  | false ↦ λ same. refl
  | true ↦ λ same. absurd (cc same)
] e
