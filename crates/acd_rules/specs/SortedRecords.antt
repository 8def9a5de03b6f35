-- The records of a list that is kept sorted by a number of its records.
use Rattle.std.specs.Prelude.{◌≡◌, ℕ, List, Some}
use Rattle.std.specs.Borrow.{Bor}
use Rattle.std.specs.Fn.{Mut, ComputesKey}
use Rattle.std.specs.Option.{option_map}
use Rattle.std.specs.List.Sorted.{IsNonDecreasingBy}
use Rattle.acd_rules.specs.declared.grouped.Grouped.{Grouped}
use Rattle.acd_rules.specs.Groups.{AreGrouped, HasAllWith}

-- the list lies by the number, and has these records
abbrev pub IsSortedOf : {T : Type 0} → (T → ℕ) → List T → List T → Type 0
IsSortedOf number xs sorted = IsNonDecreasingBy number sorted × AreGrouped number sorted xs

-- it has these records, and where they are sorted, then by the number
abbrev pub IsGrouped : {T : Type 0} → (T → ℕ) → List T → Grouped T → Type 0
IsGrouped {T} number xs grouped =
    (grouped.whole.now ≡ xs)
    × ((sorted : List T) → option_map (λ v. v.items) grouped.sorted ≡ Some sorted → IsSortedOf number xs sorted)

-- of records sorted by the number that calls of f give, those that are found have all with this one
pub record LooksUp {T F : Type 0} (g : Mut F (Bor T × Unit {0}) ℕ) (f : F) (wanted : ℕ) (grouped : Grouped T) (found : List T) : Type 0 where
  pub has : (number : T → ℕ) (xs : List T) → ComputesKey g number f → IsGrouped number xs grouped → HasAllWith number wanted found xs
