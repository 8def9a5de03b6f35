-- A list that is processed item by item.
use Rattle.std.proofs.Common.{◌≡◌, ℕ, ◌+◌, ◌<◌, suc, length, drop, get_or, drop-cons, ap₂, List, ◌∷◌, sym, ◌∙◌, arith}

pub at : {X : Type 0} (xs : List X) (i : ℕ) (x d : X) → x ≡ get_or xs i d → i < length xs → drop i xs ≡ x ∷ drop (i + 1) xs
at xs i x d is low = let more : suc i ≡ i + 1 = omega arith in drop-cons xs i d low ∙ ap₂ (λ y n. y ∷ drop n xs) (sym is) more
