-- The moment of a text.
use Rattle.std.proofs.Common.{◌≡◌, ◌==◌, ◌&&◌, ℕ, ◌<◌, ◌≤◌, true, false, not, nat_lt, nat_le, ne_eqb, List, ◌∷◌, ◌++◌, length, Some, None, option_map, Result, Ok, Err, inl, inr, refl, sym, ap, ◌∙◌, arith}
use Rattle.std.specs.Result.{OkIff, result_ok}
use Rattle.std.specs.Str.Parse.{digits_value}
use Rattle.std.proofs.lemmas.Bool.Decides.{nat_tests}
use Rattle.std.proofs.lemmas.Bool.{and_parts, cases_lt, not-true, true≢false}
use Rattle.std.specs.Cmp.Derive.{both_true}
use Rattle.std.specs.Char.{is_ascii_digit}
use Rattle.std.specs.List.{list_all}
use Rattle.acd_io.specs.Digits.{is_number, number_up_to}
use Rattle.acd_io.proofs.DigitLemmas.{positive, few_digits, no_number}
use Rattle.acd_lines.specs.Input.{has_none, is_moment, moment_of_digits, moment_before, moment_of}
use Rattle.acd_lines.proofs.Splits.{split_none, split_first}

no_moment : (digits : List ℕ) → is_moment digits ≡ false → moment_of_digits digits ≡ None
unfolding moment_of_digits
no_moment digits h = rw h refl

pub number_long : (digits : List ℕ) → 10 < length digits → moment_of_digits digits ≡ None
number_long digits h = no_moment digits (grind (arith, nat_tests))

pub number_faulty : (digits : List ℕ) → number_up_to digits ≡ None → moment_of_digits digits ≡ None
number_faulty digits e = elim (is_moment digits) as (λ b. is_moment digits ≡ b → moment_of_digits digits ≡ None) [
  | false ↦ λ h. no_moment digits h
  | true ↦ λ h.
      let first = and_parts (nat_lt 0 (length digits)) (nat_le (length digits) 10 && (list_all is_ascii_digit digits && nat_le (digits_value 10 digits) 4294967295)) h in
      let second = and_parts (nat_le (length digits) 10) (list_all is_ascii_digit digits && nat_le (digits_value 10 digits) 4294967295) first.1 in
      let third = and_parts (list_all is_ascii_digit digits) (nat_le (digits_value 10 digits) 4294967295) second.1 in
      let some : 0 < length digits = let at = first.0 in grind (arith, nat_tests) in
      let none : (length digits == 0) ≡ false = ne_eqb (length digits) 0 (λ z. omega (arith, some, z)) in
      absurd (true≢false (sym (both_true (ap not none) third.0) ∙ no_number digits e))
] refl

number_is : (digits : List ℕ) (v : ℕ) → length digits ≤ 10 → is_number digits ≡ true → v ≡ digits_value 10 digits → v ≤ 4294967295 → Some v ≡ moment_of_digits digits
unfolding moment_of_digits
number_is digits v short numbered is small =
    let both = and_parts (not (length digits == 0)) (list_all is_ascii_digit digits) numbered in
    let some : 0 < length digits = positive (length digits) (not-true (length digits == 0) both.0) in
    let all = both.1 in
    let holds : is_moment digits ≡ true = grind (arith, nat_tests) in
    rw holds (ap Some is)

-- where the number fits
pub number_fits : {E : Type 0} (r : Result ℕ E) (digits : List ℕ) (v : ℕ) → OkIff r (v < 4294967296) v → length digits ≤ 10 → number_up_to digits ≡ Some v → result_ok r ≡ moment_of_digits digits
number_fits (Ok x) digits v h short e =
    let few = few_digits digits v short e in
    number_is digits x short few.0 (h.1 ∙ few.1) (omega (arith, h.0, h.1))
number_fits (Err e) digits v h short is =
    let few = few_digits digits v short is in
    let great : 4294967295 < digits_value 10 digits = elim (cases_lt 4294967295 v) [ inl large ↦ omega (arith, large, few.1) | inr small ↦ absurd (h (omega arith)) ] in
    sym (no_moment digits (grind (arith, nat_tests)))

-- ---- the moment of a text with and without a space

pub moment_none : (text : List ℕ) → has_none 32 text ≡ true → moment_of text ≡ None
unfolding moment_of
moment_none text h = ap moment_before (split_none 32 text h)

pub moment_split : (text front rest : List ℕ) → text ≡ front ++ 32 ∷ rest → has_none 32 front ≡ true → moment_of text ≡ option_map (λ n. (n, rest)) (moment_of_digits front)
unfolding moment_of
moment_split text front rest e h = ap moment_of e ∙ ap moment_before (split_first 32 front rest h)
