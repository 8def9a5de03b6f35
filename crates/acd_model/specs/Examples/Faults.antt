-- Worked examples: what is an identifier, a name and a requester, the first fault of what is none, and the first rule that rows break.
use Rattle.std.specs.Prelude.{◌≡◌, List, [], ◌∷◌, ◌++◌, map, reverse, codes, if◌then◌else◌, Some, None, Ok, Err}
use Rattle.acd_terms.specs.Forms.{read_id, read_text, digits_of, device_digits, agent_digits, is_name_byte, is_requester_byte}
use Rattle.acd_terms.specs.Numbers.{Device}
use Rattle.acd_terms.specs.States.{is_null}
use Rattle.acd_terms.specs.declared.id.IdFault.TheVariants as id_fault
use Rattle.acd_terms.specs.declared.name.NameFault.TheVariants as name_fault
use Rattle.acd_terms.specs.declared.command.Command.TheVariants.{AddGroup}
use Rattle.acd_terms.specs.declared.record.AgentRecord.{AgentRecord}
use Rattle.acd_terms.specs.declared.rows.Rows.{Rows}
use Rattle.acd_terms.specs.declared.rows.Rule.TheVariants as rule
use Rattle.acd_model.specs.Rules.First.{first_broken}
use Rattle.acd_model.specs.Examples.Words.{billing, claims, second_station, at, run_after, answered}
use Rattle.acd_model.specs.Examples.Corrections.{too_long_name}

-- zeros in front count, and the digits of a number are those that were read
abbrev pub DigitsThatWereRead : Type 0
DigitsThatWereRead =
    (read_id device_digits (codes "0301234") ≡ Ok 10301234) × (digits_of 10301234 ≡ codes "0301234")
    × (read_id device_digits (codes "000000000000000") ≡ Ok 1000000000000000) × (digits_of 1000000000000000 ≡ codes "000000000000000")
    × (read_id agent_digits (codes "123456789") ≡ Ok 1123456789) × (digits_of 1123456789 ≡ codes "123456789")

-- no digits, too many bytes, or the place of the first one that is no digit
abbrev pub FaultsOfDevices : Type 0
FaultsOfDevices =
    (read_id device_digits [] ≡ Err id_fault.Empty)
    × (read_id device_digits (codes "1234567890123456") ≡ Err id_fault.TooLong) × (read_id device_digits (codes "x123456789012345") ≡ Err id_fault.TooLong)
    × (read_id device_digits (codes "x01") ≡ Err (id_fault.NotDigit 0)) × (read_id device_digits (codes "12+4x") ≡ Err (id_fault.NotDigit 2))
    × (read_id device_digits (codes "12345678901234 ") ≡ Err (id_fault.NotDigit 14))

abbrev pub FaultsOfAgents : Type 0
FaultsOfAgents =
    (read_id agent_digits [] ≡ Err id_fault.Empty)
    × (read_id agent_digits (codes "1234567890") ≡ Err id_fault.TooLong) × (read_id agent_digits (codes "123456789x") ≡ Err id_fault.TooLong)
    × (read_id agent_digits (codes "-7") ≡ Err (id_fault.NotDigit 0)) × (read_id agent_digits (codes "7 ") ≡ Err (id_fault.NotDigit 1))
    × (read_id agent_digits (codes "1234567" ++ 195 ∷ 169 ∷ []) ≡ Err (id_fault.NotDigit 7)) × (read_id agent_digits (codes "12345678 ") ≡ Err (id_fault.NotDigit 8))

-- the place of the first byte that isn't printable; of too many bytes none is looked at
abbrev pub FaultsOfNames : Type 0
FaultsOfNames =
    (read_text is_name_byte 40 (31 ∷ codes "Ana") ≡ Err (name_fault.BadCharacter 0)) × (read_text is_name_byte 40 (codes "An" ++ 127 ∷ codes "a") ≡ Err (name_fault.BadCharacter 2))
    × (read_text is_name_byte 40 (codes "Caf" ++ 195 ∷ 169 ∷ []) ≡ Err (name_fault.BadCharacter 3)) × (read_text is_name_byte 40 (codes " ~") ≡ Ok (codes " ~"))
    × (read_text is_name_byte 40 (map (λ _. 31) too_long_name) ≡ Err name_fault.TooLong)

abbrev pub FaultsOfRequesters : Type 0
FaultsOfRequesters =
    (read_text is_requester_byte 32 [] ≡ Err name_fault.Empty) × (read_text is_requester_byte 32 (codes "a-9z") ≡ Ok (codes "a-9z"))
    × (read_text is_requester_byte 32 (codes "Plan") ≡ Err (name_fault.BadCharacter 0)) × (read_text is_requester_byte 32 (codes "pBx") ≡ Err (name_fault.BadCharacter 1))
    × (read_text is_requester_byte 32 (codes "a-9_") ≡ Err (name_fault.BadCharacter 3))
    × (read_text is_requester_byte 32 (codes "aaaaaaaaaaaaaaaaaaaaaaaaaaaaaaaaa") ≡ Err name_fault.TooLong)
    × (read_text is_requester_byte 32 (codes "AAAAAAAAAAAAAAAAAAAAAAAAAAAAAAAAA") ≡ Err name_fault.TooLong)

-- a group before all others
abbrev pub returns_group : Device
returns_group = 105

-- a call is answered, and who is logged on has other groups
abbrev pub agents_regrouped : List Device → Rows
agents_regrouped groups =
    let s = (run_after [] (answered ++ at 30 (AddGroup returns_group (codes "Returns") 20 30) ∷ [])).rows in
    record s { agents = map (λ (a : AgentRecord). if is_null a.state then a else record a { groups = groups }) s.agents }

abbrev pub turned : Rows → Rows
turned s = record s { connections = reverse s.connections }

-- a second group isn't planned, is less than all that are, or is a station; lists out of order are found before
abbrev pub RowsThatBreakARule : Type 0
RowsThatBreakARule =
    (first_broken (agents_regrouped (returns_group ∷ billing ∷ [])) ≡ None)
    × (first_broken (agents_regrouped (billing ∷ claims ∷ [])) ≡ Some rule.Agent) × (first_broken (agents_regrouped (104 ∷ billing ∷ [])) ≡ Some rule.Agent)
    × (first_broken (agents_regrouped (billing ∷ second_station ∷ [])) ≡ Some rule.Agent)
    × (first_broken (turned (agents_regrouped (billing ∷ second_station ∷ []))) ≡ Some rule.Order)
