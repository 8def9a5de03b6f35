-- Records by a number of theirs.
use Rattle.std.specs.Prelude.{◌≡◌, ℕ, ◌==◌, List, Option, Some, None, filter}
use Rattle.std.specs.Borrow.{Bor}
use Rattle.std.specs.Fn.{Mut, ComputesKey}
use Rattle.std.specs.List.Sorted.{IsNonDecreasingBy}
use Rattle.acd_terms.specs.declared.record.GroupRecord.{GroupRecord}
use Rattle.acd_terms.specs.declared.record.StationRecord.{StationRecord}
use Rattle.acd_terms.specs.declared.record.CallRecord.{CallRecord}
use Rattle.acd_terms.specs.declared.record.AgentRecord.{AgentRecord}
use Rattle.acd_terms.specs.declared.record.ConnectionRecord.{ConnectionRecord}

-- those of the list whose number it is, in their order
abbrev pub those_with : {T : Type 0} → (T → ℕ) → ℕ → List T → List T
those_with number n xs = filter (λ x. number x == n) xs

-- some of all, with all whose number it is among them, in their order
abbrev pub HasAllWith : {T : Type 0} → (T → ℕ) → ℕ → List T → List T → Type 0
HasAllWith number n some all = those_with number n some ≡ those_with number n all

-- at each number the two lists have the same records, in the same order
abbrev pub AreGrouped : {T : Type 0} → (T → ℕ) → List T → List T → Type 0
AreGrouped number sorted xs = (n : ℕ) → HasAllWith number n sorted xs

-- the list in the order of the number that calls of f give; those of one number stay in their order
abbrev pub IsByNumber : {T F : Type 0} → Mut F (Bor T × Unit {0}) ℕ → F → List T → List T → Type 0
IsByNumber {T} g f xs sorted = (number : T → ℕ) → ComputesKey g number f → IsNonDecreasingBy number sorted × AreGrouped number sorted xs

-- of a list in that order, those whose number it is
abbrev pub FindsAll : {T F : Type 0} → Mut F (Bor T × Unit {0}) ℕ → F → ℕ → List T → List T → Type 0
FindsAll {T} g f wanted sorted found = (number : T → ℕ) → ComputesKey g number f → IsNonDecreasingBy number sorted → found ≡ those_with number wanted sorted

-- the number that may be there, else 0
abbrev pub number_or_none : Option ℕ → ℕ
number_or_none None = 0
number_or_none (Some n) = n

abbrev pub group_number : GroupRecord → ℕ
group_number g = g.device

abbrev pub station_number : StationRecord → ℕ
station_number t = t.device

abbrev pub call_number : CallRecord → ℕ
call_number c = c.call

abbrev pub seat_number : AgentRecord → ℕ
seat_number a = number_or_none a.station

abbrev pub party_call : ConnectionRecord → ℕ
party_call x = x.call

abbrev pub party_device : ConnectionRecord → ℕ
party_device x = x.device

abbrev pub party_place : ConnectionRecord → ℕ
party_place x = number_or_none x.place

abbrev pub party_group : ConnectionRecord → ℕ
party_group x = number_or_none x.group
