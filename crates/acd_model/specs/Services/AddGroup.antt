-- addGroup: a group is planned.
use Rattle.std.specs.Prelude.{ℕ, List, [], ◌∷◌, length, nat_le}
use Rattle.acd_terms.specs.Numbers.{Device, Seconds}
use Rattle.acd_terms.specs.Results.{◌>>◌}
use Rattle.acd_terms.specs.declared.rows.Rows.{Rows}
use Rattle.acd_terms.specs.declared.record.Figures.{Figures}
use Rattle.acd_terms.specs.declared.record.GroupRecord.{GroupRecord}
use Rattle.acd_terms.specs.declared.answer.Answer.TheVariants.{Nothing}
use Rattle.acd_terms.specs.declared.answer.Refusal.TheVariants.{DeviceExists, PlanFull}
use Rattle.acd_model.specs.Scans.{is_used}
use Rattle.acd_model.specs.Moves.{silent}
use Rattle.acd_model.specs.ServiceAnswers.{Served, refuse_if, gives}
use Rattle.acd_model.specs.declared.moves.Change.TheVariants.{PutGroup}

abbrev pub no_figures : Figures
no_figures = record { entered = 0; answered = 0; abandoned = 0; moved = 0; waited = 0 }

-- a group as it is planned: of the lowest priority
abbrev pub new_group : Device → List ℕ → Seconds → Seconds → GroupRecord
new_group device name ring wrap = record { device = device; name = name; ring = ring; wrap = wrap; priority = 0; figures = no_figures }

unfoldable pub add_group : Rows → Device → List ℕ → Seconds → Seconds → Served
add_group s device name ring wrap = do
  refuse_if (is_used s device) DeviceExists
  refuse_if (nat_le s.limits.groups (length s.groups)) PlanFull
  gives Nothing (silent (PutGroup (new_group device name ring wrap)) ∷ [])
