-- One byte further in a loop over bytes.
use Rattle.std.proofs.Common.{◌≡◌, ℕ, ◌+◌, ◌-◌, ◌<◌, ◌≤◌, ◌++◌, true, false, List, [], ◌∷◌, length, drop, take, get_or, refl, sym, ap, ◌∙◌, arith, add-one, drop-cons, ne_eqb, append_assoc, append-nil, length-drop}
use Rattle.std.proofs.lemmas.List.{drop_all, take_all, take_more}
use Rattle.acd_http.specs.declared.head.Place.{Place}
use Rattle.acd_http.specs.Head.{lines_from, is_empty_at, head_place_after}
use Rattle.acd_http.specs.declared.head.Place.TheVariants.{Start}
use Rattle.acd_http.specs.Target.{begins_path, from_path, before_mark, after_mark}

at : (bytes : List ℕ) (i : ℕ) → i < length bytes → drop i bytes ≡ get_or bytes i 0 ∷ drop (i + 1) bytes
at bytes i h = rw (drop-cons bytes i 0, add-one) refl

-- ---- the lines of a head

pub line_goes_on : (place : Place) (bytes : List ℕ) (i : ℕ) → i < length bytes → (get_or bytes i 0 ≡ 10 → ⊥) → lines_from place (drop i bytes) ≡ lines_from (head_place_after place (get_or bytes i 0)) (drop (i + 1) bytes)
unfolding lines_from
line_goes_on place bytes i h other = ap (lines_from place) (at bytes i h) ∙ (rw (ne_eqb (get_or bytes i 0) 10 other) refl)

at_feed : (place : Place) (bytes : List ℕ) (i : ℕ) → i < length bytes → get_or bytes i 0 ≡ 10 → lines_from place (drop i bytes) ≡ lines_from place (10 ∷ drop (i + 1) bytes)
at_feed place bytes i h feed = ap (lines_from place) (at bytes i h ∙ ap (λ (x : ℕ). x ∷ drop (i + 1) bytes) feed)

pub line_ends : (place : Place) (bytes : List ℕ) (i : ℕ) → i < length bytes → get_or bytes i 0 ≡ 10 → is_empty_at place ≡ false → lines_from place (drop i bytes) ≡ 1 + lines_from Start (drop (i + 1) bytes)
unfolding lines_from
line_ends place bytes i h feed other = at_feed place bytes i h feed ∙ (rw other refl)

pub empty_line : (place : Place) (bytes : List ℕ) (i : ℕ) → i < length bytes → get_or bytes i 0 ≡ 10 → is_empty_at place ≡ true → lines_from place (drop i bytes) ≡ lines_from Start (drop (i + 1) bytes)
unfolding lines_from
empty_line place bytes i h feed empty = at_feed place bytes i h feed ∙ (rw empty refl)

pub no_line : (place : Place) (bytes : List ℕ) (i : ℕ) → length bytes ≤ i → lines_from place (drop i bytes) ≡ 0
unfolding lines_from
no_line place bytes i h = ap (lines_from place) (drop_all i bytes h)

-- ---- a target

pub path_here : (bytes : List ℕ) (i : ℕ) → i < length bytes → begins_path (get_or bytes i 0) ≡ true → from_path (drop i bytes) ≡ drop i bytes
unfolding from_path
path_here bytes i h e = ap from_path (at bytes i h) ∙ (rw e (sym (at bytes i h)))

pub path_later : (bytes : List ℕ) (i : ℕ) → i < length bytes → begins_path (get_or bytes i 0) ≡ false → from_path (drop i bytes) ≡ from_path (drop (i + 1) bytes)
unfolding from_path
path_later bytes i h e = ap from_path (at bytes i h) ∙ (rw e refl)

pub no_path : (bytes : List ℕ) (i : ℕ) → length bytes ≤ i → from_path (drop i bytes) ≡ []
unfolding from_path
no_path bytes i h = ap from_path (drop_all i bytes h)

pub before_here : (bytes : List ℕ) (i : ℕ) → i < length bytes → get_or bytes i 0 ≡ 63 → before_mark (drop i bytes) ≡ []
unfolding before_mark
before_here bytes i h e = ap before_mark (at bytes i h ∙ ap (λ (x : ℕ). x ∷ drop (i + 1) bytes) e)

pub after_here : (bytes : List ℕ) (i : ℕ) → i < length bytes → get_or bytes i 0 ≡ 63 → after_mark (drop i bytes) ≡ drop (i + 1) bytes
unfolding after_mark
after_here bytes i h e = ap after_mark (at bytes i h ∙ ap (λ (x : ℕ). x ∷ drop (i + 1) bytes) e)

pub before_later : (bytes : List ℕ) (i : ℕ) → i < length bytes → (get_or bytes i 0 ≡ 63 → ⊥) → take (i + 1) bytes ++ before_mark (drop (i + 1) bytes) ≡ take i bytes ++ before_mark (drop i bytes)
unfolding before_mark
before_later bytes i h other =
    let x = get_or bytes i 0 in
    let here : before_mark (drop i bytes) ≡ x ∷ before_mark (drop (i + 1) bytes) = ap before_mark (at bytes i h) ∙ (rw (ne_eqb x 63 other) refl) in
    ap (λ (l : List ℕ). l ++ before_mark (drop (i + 1) bytes)) (take_more bytes i 0 h) ∙ append_assoc (take i bytes) (x ∷ []) (before_mark (drop (i + 1) bytes)) ∙ ap (λ (l : List ℕ). take i bytes ++ l) (sym here)

pub after_later : (bytes : List ℕ) (i : ℕ) → i < length bytes → (get_or bytes i 0 ≡ 63 → ⊥) → after_mark (drop (i + 1) bytes) ≡ after_mark (drop i bytes)
unfolding after_mark
after_later bytes i h other = sym (ap after_mark (at bytes i h) ∙ (rw (ne_eqb (get_or bytes i 0) 63 other) refl))

pub before_end : (bytes : List ℕ) (i : ℕ) → length bytes ≤ i → take i bytes ++ before_mark (drop i bytes) ≡ bytes
unfolding before_mark
before_end bytes i h = ap (λ (l : List ℕ). l ++ before_mark (drop i bytes)) (take_all i bytes h) ∙ ap (λ (l : List ℕ). bytes ++ before_mark l) (drop_all i bytes h) ∙ append-nil bytes

pub after_end : (bytes : List ℕ) (i : ℕ) → length bytes ≤ i → after_mark (drop i bytes) ≡ []
unfolding after_mark
after_end bytes i h = ap after_mark (drop_all i bytes h)

pub to_end : (bytes : List ℕ) (i : ℕ) → i ≤ length bytes → take (length bytes - i) (drop i bytes) ≡ drop i bytes
to_end bytes i h = take_all (length bytes - i) (drop i bytes) (omega (arith, length-drop i bytes))
