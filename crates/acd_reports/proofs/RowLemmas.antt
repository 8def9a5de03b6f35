-- Digits, texts and fields of a row.
use Rattle.std.proofs.Common.{◌≡◌, ◌≢◌, ℕ, zero, suc, ◌+◌, ◌-◌, ◌*◌, ◌^◌, ◌<◌, ◌≤◌, Bool, true, false, List, [], ◌∷◌, length, take, get_or, Option, Some, None, option_map, if◌then◌else◌, Result, Ok, Err, refl, sym, rules, arith, add-one, pow-suc, ◌&&◌, ◌==◌}
use Rattle.std.specs.Prelude.{nat_le}
use Rattle.std.specs.Result.{MatchResult, is_ok}
use Rattle.std.specs.Char.{is_ascii_digit}
use Rattle.std.specs.Str.{IsUtf8, is_utf8}
use Rattle.std.specs.List.{list_all}
use Rattle.std.specs.Str.Parse.{digits_value}
use Rattle.std.proofs.lemmas.Str.{IsUtf8-from_is_utf8, is_utf8-from_IsUtf8, digit_value_digit}
use Rattle.std.proofs.lemmas.Bool.Decides.{nat_tests}
use Rattle.std.specs.Option.{IsSome}
use Rattle.std.proofs.lemmas.Int.Digits.{digits_value_more}
use Rattle.acd_terms.proofs.Identifiers.{digit_at}
use Rattle.csv.specs.Records.{field_at}
use Rattle.csv.proofs.RecordFacts.{field-there}
use Rattle.acd_terms.specs.Forms.{number_between}
use Rattle.acd_reports.specs.PlanRows.{five_of, plan_row_of, seconds_of}

-- a digit more
pub next_value : (digits : List ℕ) (i v d : ℕ) → i < length digits → list_all is_ascii_digit digits ≡ true → v ≡ digits_value 10 (take i digits) → d ≡ get_or digits i 0 - 48 → v * 10 + d ≡ digits_value 10 (take (i + 1) digits)
next_value digits i v d inside all so_far is =
    let more = digits_value_more 10 digits i inside in
    let one = digit_value_digit (get_or digits i 0) (digit_at digits i inside all) in
    omega (arith, more, one, so_far, is)

pub next_small : (digits : List ℕ) (i v d : ℕ) → i < length digits → list_all is_ascii_digit digits ≡ true → v < 10 ^ i → d ≡ get_or digits i 0 - 48 → v * 10 + d < 10 ^ (i + 1)
next_small digits i v d inside all small is =
    let digit = digit_at digits i inside all in
    rw (add-one, pow-suc 10 i) (omega (arith, digit.1, small, is))

-- the test of a text
not_text : (bs : List ℕ) (b : Bool) → is_utf8 bs ≡ b → ¬ (IsUtf8 bs) → false ≡ b
not_text bs true e h = absurd (h (IsUtf8-from_is_utf8 bs e))
not_text bs false e h = refl

pub text_test : {T E : Type 0} (P : T → Type 0) (Q : E → Type 0) (r : Result T E) (bs : List ℕ) → MatchResult r (λ s. P s × IsUtf8 bs) (λ e. ¬ (IsUtf8 bs) × Q e) → is_ok r ≡ is_utf8 bs
text_test P Q (Ok s) bs h = sym (is_utf8-from_IsUtf8 bs h.1)
text_test P Q (Err e) bs h = not_text bs (is_utf8 bs) refl h.0

-- five fields by their places
pub five_fields : (fields : List (List ℕ)) (a b c d e : List ℕ) → length fields ≡ 5 → field_at fields 0 ≡ Some a → field_at fields 1 ≡ Some b → field_at fields 2 ≡ Some c → field_at fields 3 ≡ Some d → field_at fields 4 ≡ Some e
    → fields ≡ a ∷ b ∷ c ∷ d ∷ e ∷ []
unfolding field_at
five_fields [] a b c d e n p0 p1 p2 p3 p4 = absurd (omega arith)
five_fields (f0 ∷ []) a b c d e n p0 p1 p2 p3 p4 = absurd (omega arith)
five_fields (f0 ∷ f1 ∷ []) a b c d e n p0 p1 p2 p3 p4 = absurd (omega arith)
five_fields (f0 ∷ f1 ∷ f2 ∷ []) a b c d e n p0 p1 p2 p3 p4 = absurd (omega arith)
five_fields (f0 ∷ f1 ∷ f2 ∷ f3 ∷ []) a b c d e n p0 p1 p2 p3 p4 = absurd (omega arith)
five_fields (f0 ∷ f1 ∷ f2 ∷ f3 ∷ f4 ∷ []) a b c d e n p0 p1 p2 p3 p4 = cc
five_fields (f0 ∷ f1 ∷ f2 ∷ f3 ∷ f4 ∷ f5 ∷ fs) a b c d e n p0 p1 p2 p3 p4 = absurd (omega arith)

not_five : (fields : List (List ℕ)) → length fields ≢ 5 → five_of fields ≡ None
not_five [] n = refl
not_five (f0 ∷ []) n = refl
not_five (f0 ∷ f1 ∷ []) n = refl
not_five (f0 ∷ f1 ∷ f2 ∷ []) n = refl
not_five (f0 ∷ f1 ∷ f2 ∷ f3 ∷ []) n = refl
not_five (f0 ∷ f1 ∷ f2 ∷ f3 ∷ f4 ∷ []) n = absurd (n refl)
not_five (f0 ∷ f1 ∷ f2 ∷ f3 ∷ f4 ∷ f5 ∷ fs) n = refl

by_test : (b : Bool) (fields : List (List ℕ)) → list_all is_utf8 fields ≡ b → five_of fields ≡ None → None ≡ plan_row_of fields
unfolding plan_row_of
by_test true fields e h = rw e (sym h)
by_test false fields e h = rw e refl

pub no_row : (fields : List (List ℕ)) → length fields ≢ 5 → None ≡ plan_row_of fields
no_row fields n = by_test (list_all is_utf8 fields) fields refl (not_five fields n)

-- a row of five fields, by whether they are texts
pub row_with : (t : Bool) (fields : List (List ℕ)) (a b c d e : List ℕ) → length fields ≡ 5 → field_at fields 0 ≡ Some a → field_at fields 1 ≡ Some b → field_at fields 2 ≡ Some c → field_at fields 3 ≡ Some d → field_at fields 4 ≡ Some e
    → list_all is_utf8 (a ∷ b ∷ c ∷ d ∷ e ∷ []) ≡ t → (if t then Some (record { kind = a; number = b; name = c; ring = d; wrap = e }) else None) ≡ plan_row_of fields
unfolding plan_row_of
row_with t fields a b c d e n p0 p1 p2 p3 p4 h = rw (five_fields fields a b c d e n p0 p1 p2 p3 p4, h) refl

-- a place within the fields has one
pub some_field : {T : Type 0} (now : T → List ℕ) (o : Option T) (fields : List (List ℕ)) (i : ℕ) → option_map now o ≡ field_at fields i → i < length fields → IsSome o
some_field now None fields i e h = absurd (field-there fields i h (sym e))
some_field now (Some x) fields i e h = search rules

-- the seconds of digits
pub seconds_are : (text : List ℕ) → 1 ≤ length text → length text ≤ 4 → list_all is_ascii_digit text ≡ true → number_between 0 3600 (digits_value 10 text) ≡ seconds_of text
unfolding seconds_of
seconds_are text some short all =
    let holds : (nat_le 1 (length text) && nat_le (length text) 4 && list_all is_ascii_digit text) ≡ true = grind (arith, nat_tests) in
    rw holds refl

pub positive : (n : ℕ) → (n == 0) ≡ false → 1 ≤ n
positive zero h = absurd cc
positive (suc n) h = omega arith
