-- A device put after those that are held takes the place of the first cell after them.
use Rattle.std.proofs.Common.{◌≡◌, ℕ, suc, ◌+◌, ◌-◌, ◌<◌, List, [], ◌∷◌, ◌++◌, length, take, drop, replicate, slice_set, sym, ap, ◌∙◌, arith, length-take-le}
use Rattle.std.proofs.lemmas.List.{set_split, take_more_set, length-set, drop-replicate, append_assoc}
use Rattle.std.proofs.Math.Seq.{drop-append-add}
use Rattle.acd_terms.specs.DeviceArrays.{AreHeld}

rest : (p : List ℕ) (n len : ℕ) → length p ≡ len → drop (len + 1) (p ++ replicate n 10) ≡ replicate (n - 1) 10
rest p n len e = rw (sym e) (drop-append-add p (replicate n 10) 1 ∙ drop-replicate 1 n 10)

left : (cells : List ℕ) (len : ℕ) → AreHeld cells len → drop (len + 1) cells ≡ replicate (8 - len - 1) 10
left cells len h =
    ap (drop (len + 1)) h.cells_are ∙ rest (take len cells) (8 - len) len (length-take-le len cells (omega (arith, h.fits, h.size_is)))

pub pushed : (cells : List ℕ) (len d : ℕ) → AreHeld cells len → len < 8 → AreHeld (slice_set cells len d) (len + 1)
pushed cells len d h room =
    let inside : len < length cells = omega (arith, h.size_is, room) in
    let more : suc len ≡ len + 1 = omega (arith) in
    let rest : 8 - len - 1 ≡ 8 - (len + 1) = omega (arith) in
    record {
      fits = omega (arith, room);
      cells_are = set_split cells len d inside
          ∙ ap (λ (cs : List ℕ). take len cells ++ d ∷ cs) (ap (λ (n : ℕ). drop n cells) more ∙ left cells len h ∙ ap (λ (n : ℕ). replicate n 10) rest)
          ∙ sym (append_assoc (take len cells) (d ∷ []) (replicate (8 - (len + 1)) 10))
          ∙ sym (ap (λ (cs : List ℕ). cs ++ replicate (8 - (len + 1)) 10) (take_more_set cells len d inside));
      size_is = length-set cells len d ∙ h.size_is;
    }
