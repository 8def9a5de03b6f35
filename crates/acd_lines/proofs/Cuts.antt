-- The lines of an input, and the text of a line.
use Rattle.std.proofs.Common.{◌≡◌, ℕ, ◌-◌, ◌<◌, Bool, true, false, not, ◌&&◌, ◌==◌, nat_lt, List, [], ◌∷◌, ◌++◌, length, take, get_or, filter, refl, sym, ap, ◌∙◌, arith, append-nil, length-append, lt-ltb}
use Rattle.std.proofs.lemmas.List.{take_at, get_or_at}
use Rattle.std.proofs.lemmas.Bool.{and_parts, true≢false, not-true}
use Rattle.std.proofs.lemmas.List.Folds.{list_all_at}
use Rattle.std.proofs.lemmas.List.Elements.{filter-append}
use Rattle.std.specs.Cmp.Derive.{both_true}
use Rattle.std.specs.List.{list_all}
use Rattle.std.specs.Io.BufRead.{ends_with_byte, strip_last}
use Rattle.acd_lines.specs.Input.{cut, onto, text_of_line, has_none}
use Rattle.acd_lines.specs.Output.{whole_lines}

-- a part with no line feed, and then one
pub cut_line : (part rest : List ℕ) → has_none 10 part ≡ true → cut (part ++ 10 ∷ rest) ≡ (part ++ 10 ∷ []) ∷ cut rest
unfolding cut
cut_line [] rest h = refl
cut_line (x ∷ part) rest h =
    let both = and_parts (not (x == 10)) (has_none 10 part) h in
    rw (not-true (x == 10) both.0) (ap (onto x) (cut_line part rest both.1))

-- a part with no line feed is one line, unless it is empty
pub cut_open : (part : List ℕ) → has_none 10 part ≡ true → 0 < length part → cut part ≡ part ∷ []
unfolding cut
cut_open [] h some = absurd (omega arith)
cut_open (x ∷ []) h some = let both = and_parts (not (x == 10)) true h in rw (not-true (x == 10) both.0) refl
cut_open (x ∷ y ∷ part) h some =
    let both = and_parts (not (x == 10)) (has_none 10 (y ∷ part)) h in
    rw (not-true (x == 10) both.0) (ap (onto x) (cut_open (y ∷ part) both.1 (omega arith)))

pub ends_in_feed : (part : List ℕ) → ends_with_byte 10 (part ++ 10 ∷ []) ≡ true
ends_in_feed part =
    let size = length-append part (10 ∷ []) in
    let last : length (part ++ 10 ∷ []) - 1 ≡ length part = omega arith in
    let some : 0 < length (part ++ 10 ∷ []) = omega arith in
    both_true (lt-ltb 0 _ some) (ap (λ (n : ℕ). get_or (part ++ 10 ∷ []) n 0 == 10) last ∙ ap (λ (x : ℕ). x == 10) (get_or_at part 10 [] 0 (length part) refl))

pub text_line : (part : List ℕ) → text_of_line (part ++ 10 ∷ []) ≡ strip_last 13 part
unfolding text_of_line
text_line part =
    let size = length-append part (10 ∷ []) in
    let last : length (part ++ 10 ∷ []) - 1 ≡ length part = omega arith in
    rw (ends_in_feed part) (ap (strip_last 13) (ap (λ (n : ℕ). take n (part ++ 10 ∷ [])) last ∙ take_at part (10 ∷ []) (length part) refl))

no_last : (part : List ℕ) → has_none 10 part ≡ true → ends_with_byte 10 part ≡ false
no_last [] h = refl
no_last (x ∷ xs) h =
    elim (get_or (x ∷ xs) (length (x ∷ xs) - 1) 0 == 10) as (λ b. (get_or (x ∷ xs) (length (x ∷ xs) - 1) 0 == 10) ≡ b → (nat_lt 0 (length (x ∷ xs)) && b) ≡ false) [
      | true ↦ λ e. absurd (true≢false (sym h ∙ list_all_at (λ y. not (y == 10)) (x ∷ xs) (length (x ∷ xs) - 1) 0 (omega arith) (rw e refl)))
      | false ↦ λ e. rw (lt-ltb 0 (length (x ∷ xs)) (omega arith)) refl
    ] refl

pub text_open : (part : List ℕ) → has_none 10 part ≡ true → text_of_line part ≡ part
unfolding text_of_line
text_open part h = rw (no_last part h) refl

filter_all : (p : List ℕ → Bool) (xs : List (List ℕ)) → list_all p xs ≡ true → filter p xs ≡ xs
filter_all p [] h = refl
filter_all p (x ∷ xs) h =
    let both = and_parts (p x) (list_all p xs) h in
    rw both.0 (ap (λ l. x ∷ l) (filter_all p xs both.1))

filter_open : (part : List ℕ) → has_none 10 part ≡ true → filter (ends_with_byte 10) (cut part) ≡ []
unfolding cut
filter_open [] h = refl
filter_open (x ∷ part) h = rw (cut_open (x ∷ part) h (omega arith)) (rw (no_last (x ∷ part) h) refl)

-- the rest after the last line feed is no whole line
pub whole_of : (seen part : List ℕ) (pieces : List (List ℕ)) → ((rest : List ℕ) → cut (seen ++ rest) ≡ pieces ++ cut (part ++ rest)) → list_all (ends_with_byte 10) pieces ≡ true → has_none 10 part ≡ true → whole_lines seen ≡ pieces
whole_of seen part pieces cuts ended open_part =
    let all : cut seen ≡ pieces ++ cut part = ap cut (sym (append-nil seen)) ∙ cuts [] ∙ ap (λ (l : List ℕ). pieces ++ cut l) (append-nil part) in
    ap (filter (ends_with_byte 10)) all ∙ filter-append (ends_with_byte 10) pieces (cut part) ∙ ap (λ l. l ++ filter (ends_with_byte 10) (cut part)) (filter_all (ends_with_byte 10) pieces ended)
    ∙ ap (λ l. pieces ++ l) (filter_open part open_part) ∙ append-nil pieces
