-- The text written for an identifier or a name reads as it.
use Rattle.std.proofs.Common.{◌≡◌, ℕ, ◌+◌, ◌<◌, ◌≤◌, Bool, true, false, not, List, [], ◌∷◌, length, drop, get_or, Some, None, Ok, nat_lt, decimal, refl, sym, ap, ◌∙◌, arith, le-leb}
use Rattle.std.proofs.lemmas.Fmt.{decimal_is_IsNumeral}
use Rattle.std.proofs.lemmas.Bool.{and_parts}
use Rattle.std.proofs.lemmas.Bool.Decides.{nat_tests}
use Rattle.std.proofs.lemmas.Iterator.Adapters.{position_from-zero}
use Rattle.std.specs.List.{list_all, position, position_from}
use Rattle.std.specs.Char.{is_ascii_digit}
use Rattle.std.specs.Str.Parse.{AllDigits, digits_value}
use Rattle.acd_terms.specs.Forms.{read_id, read_text, number_of, digits_of, number_between, IsNumberOf, IsText, IsBetween}
use Rattle.acd_terms.proofs.Identifiers.{all_digits}
use Rattle.acd_terms.proofs.Numbers.{not_zero}

-- where each character passes, none fails
none_after : (p : ℕ → Bool) (place : ℕ) (xs : List ℕ) → list_all p xs ≡ true → position_from (λ b. not (p b)) place xs ≡ None
none_after p place [] all = refl
none_after p place (x ∷ xs) all =
    let both = and_parts (p x) (list_all p xs) all in
    rw both.0 (none_after p (place + 1) xs both.1)

none_fails : (p : ℕ → Bool) (xs : List ℕ) → list_all p xs ≡ true → position (λ b. not (p b)) xs ≡ None
none_fails p xs all = position_from-zero (λ b. not (p b)) xs ∙ none_after p 0 xs all

not_longer : (longest n : ℕ) → n ≤ longest → nat_lt longest n ≡ false
not_longer longest n short = grind (arith, nat_tests)

read_digits : (longest : ℕ) (ds : List ℕ) → 0 < length ds → length ds ≤ longest → list_all is_ascii_digit ds ≡ true → read_id longest ds ≡ Ok (number_of ds)
unfolding read_id
read_digits longest ds some short all = rw (not_zero (length ds) some, not_longer longest (length ds) short, none_fails is_ascii_digit ds all) refl

after_one : (longest : ℕ) (ds : List ℕ) (n : ℕ) → get_or ds 0 0 ≡ 49 → 1 < length ds → length ds ≤ longest + 1 → AllDigits 10 ds → digits_value 10 ds ≡ n → read_id longest (drop 1 ds) ≡ Ok n
after_one longest [] n one some short all value = absurd (omega arith)
after_one longest (d ∷ ds) n one some short all value =
    read_digits longest ds (omega arith) (omega arith) (all_digits ds all.1)
    ∙ ap Ok (ap (λ (x : ℕ). digits_value 10 (x ∷ ds)) (sym one) ∙ value)

-- the digits of an identifier read as it
pub id_again : (longest n : ℕ) → IsNumberOf longest n → read_id longest (digits_of n) ≡ Ok n
id_again longest n h = let numeral = decimal_is_IsNumeral n h.range in after_one longest (decimal n) n h.one h.some h.short numeral.0.1 numeral.1

-- a name reads as itself
pub text_again : (passes : ℕ → Bool) (longest : ℕ) (text : List ℕ) → IsText passes longest text → read_text passes longest text ≡ Ok text
unfolding read_text
text_again passes longest text h = rw (not_zero (length text) h.some, not_longer longest (length text) h.short, none_fails passes text h.all) refl

-- a number in its range is accepted
pub number_again : (least greatest n : ℕ) → IsBetween least greatest n → number_between least greatest n ≡ Some n
unfolding number_between
number_again least greatest n h = rw (le-leb least n h.0, le-leb n greatest h.1) refl
