-- Kept records that were read ahead.
use Rattle.std.specs.Prelude.{◌≡◌, ℕ, List, length, Option, reverse}
use Rattle.std.specs.Ordering.{nat_cmp}
use Rattle.acd_terms.specs.Lists.{IsAscending}
use Rattle.acd_book.specs.Content.{Content, IsKeptAfter, records_after}
use Rattle.acd_book.specs.declared.kept.Kept.{Kept}
use Rattle.acd_sqlbook.specs.declared.ahead.Ahead.{Ahead}

-- in the order of their stamps
abbrev pub Ascend : List Kept → Type 0
Ascend kept = IsAscending (λ (a b : Kept). nat_cmp a.stamp b.stamp) kept

-- it has the first of these records above a stamp, the last of them first
abbrev pub IsAhead : Ahead → List Kept → Type 0
IsAhead a kept = reverse a.records.items ≡ records_after kept a.above (length a.records.items)

-- this holds of any records in that order, of which it has the first
abbrev pub IfAhead : Ahead → (List Kept → Type 0) → Type 0
IfAhead a Fact = (kept : List Kept) → Ascend kept → IsAhead a kept → Fact kept

-- it has the first of this content's records above its stamp
abbrev pub IsAheadOf : Ahead → Content → Type 0
IsAheadOf a c = IsAhead a c.kept

-- this is the content's record of the least greater stamp, if it has those
abbrev pub IsNextAfter : Ahead → ℕ → Content → Option Kept → Type 0
IsNextAfter a stamp c found = IsAheadOf a c → IsKeptAfter c.kept stamp found
