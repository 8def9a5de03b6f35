-- What the order is, in an input.
use Rattle.std.specs.Prelude.{◌≡◌, ℕ, List, [], ◌∷◌, ◌++◌, Bool, true, false, ◌==◌}
use Rattle.acd_io.specs.Order.{begins_order, before_order, has_order}

-- whether a line begins after these bytes, before which one begins or not
abbrev pub starts_after : Bool → List ℕ → Bool
starts_after starts [] = starts
starts_after starts (x ∷ xs) = starts_after (x == 10) xs

-- bytes are whole lines, none of which is the order, and then the order and whatever follows it
pub record ComesToOrder (starts : Bool) (bytes before : List ℕ) : Type 0 where
  pub rest : List ℕ
  pub whole : bytes ≡ before ++ rest
  pub order : begins_order rest ≡ true
  pub lines : starts_after starts before ≡ true
  pub first : has_order starts before ≡ false

-- so it is with each input that has an order; and without one all of it comes before it
abbrev pub OrderIsFirst : Type 0
OrderIsFirst =
    (input : List ℕ) → (has_order true input ≡ true → ComesToOrder true input (before_order true input)) × (has_order true input ≡ false → before_order true input ≡ input)
