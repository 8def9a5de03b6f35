-- Contents whose records are in order, as a table by key gives them.
use Rattle.std.specs.Prelude.{ℕ, ◌<◌, List, [], ◌∷◌}
use Rattle.acd_book.specs.Content.{Content}
use Rattle.acd_book.specs.Memory.{stamp_of, number_of_event}

-- each number is above the one before it, and the first is above this one
abbrev pub Rises : {T : Type 0} → (T → ℕ) → ℕ → List T → Type 0
Rises number last [] = Unit {0}
Rises number last (x ∷ xs) = (last < number x) × Rises number (number x) xs

-- the kept records are in ascending stamp and the events in ascending number, from 1 on
pub record IsOrdered (c : Content) : Type 0 where
  pub kept : Rises stamp_of 0 c.kept
  pub events : Rises number_of_event 0 c.events
