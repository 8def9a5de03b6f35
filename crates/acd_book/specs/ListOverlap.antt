-- A list that begins with what another one has above a number.
use Rattle.std.specs.Prelude.{◌≡◌, ℕ, ◌-◌, ◌≤◌, List, [], ◌∷◌, ◌++◌, min}
use Rattle.acd_terms.specs.Lists.{Every}
use Rattle.acd_book.specs.Order.{Rises}

-- the list in two: the part up to a number, and the part above it
pub record IsSplitAt {T : Type 0} (f : T → ℕ) (n : ℕ) (xs past left : List T) : Type 0 where
  pub whole : xs ≡ past ++ left
  pub below : Every (λ (x : T). f x ≤ n) past
  pub above : Rises f n left

-- one list begins with what another one has above a cut; the rest of it is above the other one's last number
pub record BeginsWithin {T : Type 0} (f : T → ℕ) (cut last : ℕ) (archived current : List T) : Type 0 where
  pub past : List T
  pub carried : List T
  pub rest : List T
  pub split : IsSplitAt f cut archived past carried
  pub mine : current ≡ carried ++ rest
  pub newer : Rises f last rest

-- the number before the first, or the last number of the other one where there is no first, or it is beyond
abbrev pub cut_before : {T : Type 0} → (T → ℕ) → ℕ → List T → ℕ
cut_before f last [] = last
cut_before f last (x ∷ xs) = min last (f x - 1)
