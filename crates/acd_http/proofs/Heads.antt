-- The end of a head, a byte at a time.
use Rattle.std.proofs.Common.{◌≡◌, ℕ, suc, ◌+◌, ◌<◌, ◌≤◌, Bool, true, false, List, ◌∷◌, length, drop, get_or, Option, Some, None, option_map, refl, sym, ap, ◌∙◌, arith, add-one, drop-cons, ne_eqb}
use Rattle.std.proofs.lemmas.List.{drop_all}
use Rattle.acd_http.specs.declared.head.Place.{Place}
use Rattle.acd_http.specs.declared.head.Place.TheVariants.{Start}
use Rattle.acd_http.specs.Head.{head_from, head_len, is_empty_at, head_place_after}

pub step_other : (some : Bool) (place : Place) (bytes : List ℕ) (i : ℕ) → i < length bytes → (get_or bytes i 0 ≡ 10 → ⊥) → head_from some place (drop i bytes) ≡ option_map suc (head_from some (head_place_after place (get_or bytes i 0)) (drop (i + 1) bytes))
unfolding head_from
step_other some place bytes i h other = rw (drop-cons bytes i 0, add-one) (rw (ne_eqb (get_or bytes i 0) 10 other) refl)

at_feed : (some : Bool) (place : Place) (bytes : List ℕ) (i : ℕ) → i < length bytes → get_or bytes i 0 ≡ 10 → head_from some place (drop i bytes) ≡ head_from some place (10 ∷ drop (i + 1) bytes)
at_feed some place bytes i h feed = rw (drop-cons bytes i 0, add-one) (rw feed refl)

pub step_end : (place : Place) (bytes : List ℕ) (i : ℕ) → i < length bytes → get_or bytes i 0 ≡ 10 → is_empty_at place ≡ true → head_from true place (drop i bytes) ≡ Some 1
unfolding head_from
step_end place bytes i h feed bare = at_feed true place bytes i h feed ∙ rw bare refl

pub step_bare : (place : Place) (bytes : List ℕ) (i : ℕ) → i < length bytes → get_or bytes i 0 ≡ 10 → is_empty_at place ≡ true → head_from false place (drop i bytes) ≡ option_map suc (head_from false Start (drop (i + 1) bytes))
unfolding head_from
step_bare place bytes i h feed bare = at_feed false place bytes i h feed ∙ rw bare refl

pub step_line : (some : Bool) (place : Place) (bytes : List ℕ) (i : ℕ) → i < length bytes → get_or bytes i 0 ≡ 10 → is_empty_at place ≡ false → head_from some place (drop i bytes) ≡ option_map suc (head_from true Start (drop (i + 1) bytes))
unfolding head_from
step_line some place bytes i h feed bare = at_feed some place bytes i h feed ∙ rw bare refl

shift : (i : ℕ) (o : Option ℕ) → option_map (λ n. i + n) (option_map suc o) ≡ option_map (λ n. (i + 1) + n) o
shift i None = refl
shift i (Some n) = ap Some (omega arith)

-- one byte further, in any spelling of the new state
pub turn : (i : ℕ) (bytes : List ℕ) (some some' s : Bool) (place place' p : Place) → s ≡ some' → p ≡ place' → head_from some place (drop i bytes) ≡ option_map suc (head_from some' place' (drop (i + 1) bytes))
    → option_map (λ n. i + n) (head_from some place (drop i bytes)) ≡ head_len bytes → option_map (λ n. (i + 1) + n) (head_from s p (drop (i + 1) bytes)) ≡ head_len bytes
turn i bytes some some' s place place' p e f step before =
    ap (λ (b : Bool). option_map (λ n. (i + 1) + n) (head_from b p (drop (i + 1) bytes))) e ∙ ap (λ (q : Place). option_map (λ n. (i + 1) + n) (head_from some' q (drop (i + 1) bytes))) f
    ∙ sym (shift i (head_from some' place' (drop (i + 1) bytes))) ∙ ap (option_map (λ n. i + n)) (sym step) ∙ before

pub no_head : (some : Bool) (place : Place) (bytes : List ℕ) (i : ℕ) → length bytes ≤ i → head_from some place (drop i bytes) ≡ None
unfolding head_from
no_head some place bytes i h = ap (head_from some place) (drop_all i bytes h)
