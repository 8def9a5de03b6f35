-- A text that is split at the first byte of a kind.
use Rattle.std.proofs.Common.{◌≡◌, ℕ, zero, suc, ◌+◌, ◌<◌, Bool, true, false, not, ◌==◌, nat_lt, List, [], ◌∷◌, ◌++◌, length, take, drop, get_or, Some, None, refl, sym, ap, ◌∙◌, arith, lt-ltb, inl, inr, ◌⊎◌, append_assoc, length-append}
use Rattle.std.specs.List.{position_or_len}
use Rattle.std.specs.Cmp.Derive.{both_true}
use Rattle.std.proofs.lemmas.List.{take_at, take_all, drop_at, take-append-drop, drop_more}
use Rattle.std.proofs.lemmas.Bool.{and_parts, eqb-true, eq-eqb, le-ltb}
use Rattle.memchr.specs.Find.{Nowhere, NoneBefore, Passes, is_byte}
use Rattle.acd_lines.specs.Input.{has_none, split_once}

place_none : (byte : ℕ) (text : List ℕ) → has_none byte text ≡ true → position_or_len (λ x. x == byte) text ≡ length text
place_none byte [] h = refl
place_none byte (x ∷ xs) h = let both = and_parts (not (x == byte)) (has_none byte xs) h in rw both.0 (omega (arith, place_none byte xs both.1))

place_first : (byte : ℕ) (front rest : List ℕ) → has_none byte front ≡ true → position_or_len (λ x. x == byte) (front ++ byte ∷ rest) ≡ length front
place_first byte [] rest h = rw (eq-eqb byte byte refl) refl
place_first byte (x ∷ xs) rest h = let both = and_parts (not (x == byte)) (has_none byte xs) h in rw both.0 (omega (arith, place_first byte xs rest both.1))

-- a text with no such byte
pub split_none : (byte : ℕ) (text : List ℕ) → has_none byte text ≡ true → split_once byte text ≡ None
split_none byte text h = rw (place_none byte text h, le-ltb (length text) (length text) (omega arith)) refl

-- a text with one
pub split_first : (byte : ℕ) (front rest : List ℕ) → has_none byte front ≡ true → split_once byte (front ++ byte ∷ rest) ≡ Some (front, rest)
split_first byte front rest h =
    let size = length-append front (byte ∷ rest) in
    let inside : nat_lt (length front) (length (front ++ byte ∷ rest)) ≡ true = lt-ltb _ _ (omega arith) in
    let ahead = take_at front (byte ∷ rest) (length front) refl in
    let after : drop (length front + 1) (front ++ byte ∷ rest) ≡ rest = ap (drop (length front + 1)) (sym (append_assoc front (byte ∷ []) rest)) ∙ drop_at (front ++ byte ∷ []) rest (length front + 1) (length-append front (byte ∷ [])) in
    rw (place_first byte front rest h, inside, ahead, after) refl

-- every text is one or the other
pub divides : (byte : ℕ) (text : List ℕ) → (has_none byte text ≡ true) ⊎ ((front rest : List ℕ) × (text ≡ front ++ byte ∷ rest) × (has_none byte front ≡ true))
divides byte [] = inl refl
divides byte (x ∷ xs) =
    elim (x == byte) as (λ b. (x == byte) ≡ b → (has_none byte (x ∷ xs) ≡ true) ⊎ ((front rest : List ℕ) × (x ∷ xs ≡ front ++ byte ∷ rest) × (has_none byte front ≡ true))) [
      | true ↦ λ e. inr ([], xs, ap (λ (y : ℕ). y ∷ xs) (eqb-true x byte e), refl)
      | false ↦ λ e. elim (divides byte xs) [
        | inl none ↦ inl (both_true (ap not e) none)
        | inr one ↦ inr (x ∷ one.0, one.1, ap (λ (l : List ℕ). x ∷ l) one.2, both_true (ap not e) one.3)
      ]
    ] refl

-- ---- the place that a search finds

fails : (b : Bool) → (b ≡ true → ⊥) → not b ≡ true
fails true h = absurd (h refl)
fails false h = refl

none_before : (byte k : ℕ) (text : List ℕ) → ((j : ℕ) → j < k → (get_or text j 0 == byte) ≡ true → ⊥) → has_none byte (take k text) ≡ true
none_before byte zero text h = refl
none_before byte (suc k) [] h = refl
none_before byte (suc k) (x ∷ xs) h = both_true (fails (x == byte) (h 0 (omega arith))) (none_before byte k xs (λ j below. h (suc j) (omega arith)))

pub nowhere_none : (byte : ℕ) (text : List ℕ) → Nowhere (Passes (is_byte byte) text) 0 (length text) → has_none byte text ≡ true
nowhere_none byte text h =
    ap (has_none byte) (sym (take_all (length text) text (omega arith))) ∙ none_before byte (length text) text (λ j below. h j (omega arith) below)

pub first_none : (byte k : ℕ) (text : List ℕ) → NoneBefore (Passes (is_byte byte) text) 0 (length text) k → has_none byte (take k text) ≡ true
first_none byte k text h = none_before byte k text (λ j below. h.before j (omega arith) below)

pub first_split : (byte k : ℕ) (text rest : List ℕ) → k < length text → (get_or text k 0 == byte) ≡ true → rest ≡ drop (k + 1) text → text ≡ take k text ++ byte ∷ rest
first_split byte k text rest inside is same =
    sym (take-append-drop k text) ∙ ap (λ (l : List ℕ). take k text ++ l) (drop_more text k 0 inside ∙ ap (λ (x : ℕ). x ∷ drop (k + 1) text) (eqb-true _ _ is) ∙ ap (λ (l : List ℕ). byte ∷ l) (sym same))
