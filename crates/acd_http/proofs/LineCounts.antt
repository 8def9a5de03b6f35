-- The lines counted so far, one byte further.
use Rattle.std.proofs.Common.{◌≡◌, ℕ, ◌+◌, ◌<◌, true, false, List, length, drop, get_or, ap, arith}
use Rattle.acd_http.specs.declared.head.Place.{Place}
use Rattle.acd_http.specs.declared.head.Place.TheVariants.{Start}
use Rattle.acd_http.specs.Head.{lines_from, lines_in, is_empty_at, head_place_after}
use Rattle.acd_http.proofs.Steps.{line_goes_on, line_ends, empty_line}

moved : (place place' p : Place) (l : List ℕ) → p ≡ place' → lines_from p l ≡ lines_from place' l
moved place place' p l e = ap (λ (q : Place). lines_from q l) e

pub lines_on : (bytes : List ℕ) (i lines n : ℕ) (place p : Place) → i < length bytes → (get_or bytes i 0 ≡ 10 → ⊥) → n ≡ lines → p ≡ head_place_after place (get_or bytes i 0)
    → lines + lines_from place (drop i bytes) ≡ lines_in bytes → n + lines_from p (drop (i + 1) bytes) ≡ lines_in bytes
lines_on bytes i lines n place p h other same e before =
    let step = line_goes_on place bytes i h other in
    let at = moved place (head_place_after place (get_or bytes i 0)) p (drop (i + 1) bytes) e in
    omega (arith, step, at, same, before)

pub lines_more : (bytes : List ℕ) (i lines n : ℕ) (place p : Place) → i < length bytes → get_or bytes i 0 ≡ 10 → is_empty_at place ≡ false → n ≡ lines + 1 → p ≡ Start
    → lines + lines_from place (drop i bytes) ≡ lines_in bytes → n + lines_from p (drop (i + 1) bytes) ≡ lines_in bytes
lines_more bytes i lines n place p h feed other same e before =
    let step = line_ends place bytes i h feed other in
    let at = moved place Start p (drop (i + 1) bytes) e in
    omega (arith, step, at, same, before)

pub lines_same : (bytes : List ℕ) (i lines n : ℕ) (place p : Place) → i < length bytes → get_or bytes i 0 ≡ 10 → is_empty_at place ≡ true → n ≡ lines → p ≡ Start
    → lines + lines_from place (drop i bytes) ≡ lines_in bytes → n + lines_from p (drop (i + 1) bytes) ≡ lines_in bytes
lines_same bytes i lines n place p h feed other same e before =
    let step = empty_line place bytes i h feed other in
    let at = moved place Start p (drop (i + 1) bytes) e in
    omega (arith, step, at, same, before)
