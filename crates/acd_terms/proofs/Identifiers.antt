-- Digits after a 1, and what passing each character of a text gives.
use Rattle.std.proofs.Common.{◌≡◌, ℕ, zero, suc, ◌+◌, ◌-◌, ◌*◌, ◌^◌, ◌<◌, ◌≤◌, Bool, true, false, not, List, [], ◌∷◌, length, take, drop, get_or, Some, None, cond, ◌==◌, decimal, refl, sym, ap, ◌∙◌, arith, le-leb}
use Rattle.std.proofs.lemmas.Fmt.{decimal_is_IsNumeral, decimal-digits_value}
use Rattle.std.proofs.lemmas.Str.Parse.{digit_from_value, digits_value_short, IsNumeralModel, numerals_by_value, tells_digits}
use Rattle.std.proofs.lemmas.Str.{digit_value_digit}
use Rattle.std.specs.Int.{IsInRange}
use Rattle.std.proofs.lemmas.List.{length-take-le, take_more}
use Rattle.std.proofs.lemmas.Int.Digits.{digits_value_push}
use Rattle.std.proofs.lemmas.Bool.{and_parts}
use Rattle.std.proofs.lemmas.Bool.Decides.{nat_tests}
use Rattle.std.specs.Cmp.Derive.{both_true}
use Rattle.std.specs.List.{list_all, position}
use Rattle.std.proofs.lemmas.Iterator.Adapters.{position_from-zero}
use Rattle.std.specs.List.{position_from}
use Rattle.std.specs.Char.{is_ascii, is_ascii_digit, digit_value}
use Rattle.std.specs.Str.Parse.{AllDigits, digits_value}
use Rattle.acd_terms.specs.Forms.{number_of, digits_of, IsNumberOf, is_name_byte, is_requester_byte}

-- where no character fails, each passes
none_from : (p : ℕ → Bool) (place : ℕ) (xs : List ℕ) → position_from (λ b. not (p b)) place xs ≡ None → list_all p xs ≡ true
none_from p place [] e = refl
none_from p place (x ∷ xs) e = by_test (p x) refl e (none_from p (place + 1) xs)
  where
    by_test : (b : Bool) → p x ≡ b → cond (not b) (Some place) (position_from (λ c. not (p c)) (place + 1) xs) ≡ None
        → (position_from (λ c. not (p c)) (place + 1) xs ≡ None → list_all p xs ≡ true) → list_all p (x ∷ xs) ≡ true
    by_test true h e more = both_true h (more e)
    by_test false h e more = absurd cc

pub all_pass : (p : ℕ → Bool) (xs : List ℕ) → position (λ b. not (p b)) xs ≡ None → list_all p xs ≡ true
all_pass p xs e = none_from p 0 xs (sym (position_from-zero (λ b. not (p b)) xs) ∙ e)

pub more_than_none : {b : Bool} (xs : List ℕ) → b ≡ (length xs == 0) → b ≡ false → 0 < length xs
more_than_none [] e h = absurd cc
more_than_none (x ∷ xs) e h = omega arith

-- a test that is narrower
narrow : (p q : ℕ → Bool) → ((b : ℕ) → p b ≡ true → q b ≡ true) → (xs : List ℕ) → list_all p xs ≡ true → list_all q xs ≡ true
narrow p q h [] e = refl
narrow p q h (x ∷ xs) e = let both = and_parts (p x) (list_all p xs) e in both_true (h x both.0) (narrow p q h xs both.1)

pub ascii_name : (xs : List ℕ) → list_all is_name_byte xs ≡ true → list_all is_ascii xs ≡ true
ascii_name = narrow is_name_byte is_ascii (λ b e. grind (arith, nat_tests))

pub ascii_requester : (xs : List ℕ) → list_all is_requester_byte xs ≡ true → list_all is_ascii xs ≡ true
ascii_requester = narrow is_requester_byte is_ascii (λ b e. grind (arith, nat_tests))

pub ascii_digits : (xs : List ℕ) → list_all is_ascii_digit xs ≡ true → list_all is_ascii xs ≡ true
ascii_digits = narrow is_ascii_digit is_ascii (λ b e. grind (arith, nat_tests))

one_digit : (c : ℕ) → digit_value c < 10 → is_ascii_digit c ≡ true
one_digit c h = let r = digit_from_value c h in both_true (le-leb 48 c r.0) (le-leb c 57 r.1)

pub all_digits : (ds : List ℕ) → AllDigits 10 ds → list_all is_ascii_digit ds ≡ true
all_digits [] h = refl
all_digits (d ∷ ds) h = both_true (one_digit d h.0) (all_digits ds h.1)

decimal_model : IsNumeralModel (AllDigits 10) (digits_value 10)
decimal_model = numerals_by_value (AllDigits 10) tells_digits

digit_range : (c : ℕ) → is_ascii_digit c ≡ true → IsInRange 48 57 c
digit_range c h = (grind (arith, nat_tests), grind (arith, nat_tests))

from_digits : (ds : List ℕ) → list_all is_ascii_digit ds ≡ true → AllDigits 10 ds
from_digits [] h = tt
from_digits (d ∷ ds) h =
    let both = and_parts (is_ascii_digit d) (list_all is_ascii_digit ds) h in
    let r = digit_range d both.0 in
    (omega (arith, digit_value_digit d r), from_digits ds both.1)

take_digits : (ds : List ℕ) (i : ℕ) → list_all is_ascii_digit ds ≡ true → list_all is_ascii_digit (take i ds) ≡ true
take_digits [] zero h = refl
take_digits [] (suc i) h = refl
take_digits (d ∷ ds) zero h = refl
take_digits (d ∷ ds) (suc i) h = let both = and_parts (is_ascii_digit d) (list_all is_ascii_digit ds) h in both_true both.0 (take_digits ds i both.1)

with_one : (ds : List ℕ) → list_all is_ascii_digit ds ≡ true → AllDigits 10 (49 ∷ ds)
with_one ds h = from_digits (49 ∷ ds) h

pub digit_at : (bytes : List ℕ) (i : ℕ) → i < length bytes → list_all is_ascii_digit bytes ≡ true → IsInRange 48 57 (get_or bytes i 0)
digit_at [] i h d = absurd (omega arith)
digit_at (b ∷ bytes) zero h d = digit_range b (and_parts (is_ascii_digit b) (list_all is_ascii_digit bytes) d).0
digit_at (b ∷ bytes) (suc i) h d = digit_at bytes i (omega arith) (and_parts (is_ascii_digit b) (list_all is_ascii_digit bytes) d).1

pub bounded : (bytes : List ℕ) (i number : ℕ) → i < length bytes → length bytes ≤ 15 → list_all is_ascii_digit bytes ≡ true → number ≡ digits_value 10 (49 ∷ take i bytes) → number < 1000000000000000
bounded bytes i number h short d e =
    let v = digits_value_short decimal_model (49 ∷ take i bytes) 15 (with_one (take i bytes) (take_digits bytes i d)) (omega (arith, length-take-le i bytes (omega arith))) in
    omega (arith, e, v)

pub next_value : (bytes : List ℕ) (i number d : ℕ) → i < length bytes → list_all is_ascii_digit bytes ≡ true → number ≡ digits_value 10 (49 ∷ take i bytes) → d ≡ get_or bytes i 0 - 48 → number * 10 + d ≡ digits_value 10 (49 ∷ take (i + 1) bytes)
next_value bytes i number d h ds e f =
    let x = get_or bytes i 0 in
    let r = digit_at bytes i h ds in
    let v = digit_value_digit x r in
    let pushed = digits_value_push 10 (49 ∷ take i bytes) x in
    let more = ap (λ (l : List ℕ). digits_value 10 (49 ∷ l)) (take_more bytes i 0 h) in
    omega (arith, e, f, v, pushed, more)

-- the value read is the digit 1 and the digits read
pub formed : (longest : ℕ) (bytes : List ℕ) → longest ≤ 15 → 0 < length bytes → length bytes ≤ longest → list_all is_ascii_digit bytes ≡ true → IsNumberOf longest (number_of bytes)
formed longest bytes few some short d =
    let all = with_one bytes d in
    let small = digits_value_short decimal_model (49 ∷ bytes) 16 all (omega arith) in
    let text = decimal-digits_value decimal_model (49 ∷ bytes) all (omega arith) (λ e. absurd (omega arith)) (omega arith) in
    record { range = omega arith; one = ap (λ (l : List ℕ). get_or l 0 0) text; some = rw text (omega arith); short = rw text (omega arith) }

drop_ascii : (ds : List ℕ) → AllDigits 10 ds → list_all is_ascii (drop 1 ds) ≡ true
drop_ascii [] h = refl
drop_ascii (d ∷ ds) h = ascii_digits ds (all_digits ds h.1)

-- the digits of a number are characters of ASCII
pub digits_ascii : (n : ℕ) → n < 2 ^ 64 → list_all is_ascii (digits_of n) ≡ true
digits_ascii n h = drop_ascii (decimal n) (decimal_is_IsNumeral n h).0.1
