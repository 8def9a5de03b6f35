-- A text in bytes, looked for from each place on.
use Rattle.std.proofs.Common.{◌≡◌, ℕ, suc, ◌+◌, ◌<◌, true, false, List, [], ◌∷◌, length, drop, nat_eq, refl, sym, ap, ◌∙◌, drop-cons, arith, ◌≤◌, ◌-◌, take, length-drop}
use Rattle.std.proofs.lemmas.List.{take_all}
use Rattle.std.proofs.Math.ListN.{drop_of_length-le}
use Rattle.std.specs.List.{starts_with}
use Rattle.acd_program.specs.Reasons.{occurs}

hit_first : (text : List ℕ) (byte : ℕ) (rest : List ℕ) → starts_with nat_eq (byte ∷ rest) text ≡ true → occurs text (byte ∷ rest) ≡ true
unfolding occurs
hit_first text byte rest h = rw h refl

miss_first : (text : List ℕ) (byte : ℕ) (rest : List ℕ) → starts_with nat_eq (byte ∷ rest) text ≡ false → occurs text (byte ∷ rest) ≡ occurs text rest
unfolding occurs
miss_first text byte rest h = rw h refl

none : (text : List ℕ) → occurs text [] ≡ false
unfolding occurs
none text = refl

whole : (bytes : List ℕ) (i : ℕ) → take (length bytes - i) (drop i bytes) ≡ drop i bytes
whole bytes i = let few : length (drop i bytes) ≤ length bytes - i = rw (length-drop i bytes) (omega arith) in take_all _ _ few

-- at a place
pub hit_at : (text bytes : List ℕ) (i : ℕ) → i < length bytes → starts_with nat_eq (take (length bytes - i) (drop i bytes)) text ≡ true → occurs text (drop i bytes) ≡ true
hit_at text bytes i low h =
    let split = drop-cons bytes i 0 low in
    ap (occurs text) split ∙ hit_first text _ _ (ap (λ (l : List ℕ). starts_with nat_eq l text) (sym (whole bytes i ∙ split)) ∙ h)

pub miss_at : (text bytes : List ℕ) (i : ℕ) → i < length bytes → starts_with nat_eq (take (length bytes - i) (drop i bytes)) text ≡ false → occurs text (drop i bytes) ≡ occurs text (drop (i + 1) bytes)
miss_at text bytes i low h =
    let split = drop-cons bytes i 0 low in
    let next : suc i ≡ i + 1 = omega arith in
    ap (occurs text) split ∙ (miss_first text _ _ (ap (λ (l : List ℕ). starts_with nat_eq l text) (sym (whole bytes i ∙ split)) ∙ h) ∙ ap (λ (n : ℕ). occurs text (drop n bytes)) next)

pub none_at : (text bytes : List ℕ) (i : ℕ) → length bytes ≤ i → occurs text (drop i bytes) ≡ false
none_at text bytes i all = ap (occurs text) (drop_of_length-le bytes all) ∙ none text
