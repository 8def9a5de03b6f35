-- Why rows make no switch.
use Rattle.std.specs.Prelude.{◌≡◌, Some}
use Rattle.acd_terms.specs.declared.rows.Rows.{Rows}
use Rattle.acd_model.specs.Rules.First.{first_broken, BreaksNoRule}
use Rattle.acd_switch.specs.declared.row_fault.RowFault.{RowFault}
use Rattle.acd_switch.specs.declared.row_fault.RowFault.TheVariants.{Broken, NoMemory}

-- the rule is the first that the rows break; memory is wanted only for rows that break none
abbrev pub IsFaultOf : Rows → RowFault → Type 0
IsFaultOf s (Broken rule) = first_broken s ≡ Some rule
IsFaultOf s NoMemory = BreaksNoRule s
