-- addStation: a station is planned.
use Rattle.std.specs.Prelude.{[], ◌∷◌, length, nat_le}
use Rattle.acd_terms.specs.Numbers.{Device}
use Rattle.acd_terms.specs.Results.{◌>>◌}
use Rattle.acd_terms.specs.declared.rows.Rows.{Rows}
use Rattle.acd_terms.specs.declared.answer.Answer.TheVariants.{Nothing}
use Rattle.acd_terms.specs.declared.answer.Refusal.TheVariants.{DeviceExists, PlanFull}
use Rattle.acd_model.specs.Scans.{is_used}
use Rattle.acd_model.specs.Moves.{silent}
use Rattle.acd_model.specs.ServiceAnswers.{Served, refuse_if, gives}
use Rattle.acd_model.specs.declared.moves.Change.TheVariants.{PutStation}

unfoldable pub add_station : Rows → Device → Served
add_station s device = do
  refuse_if (is_used s device) DeviceExists
  refuse_if (nat_le s.limits.stations (length s.stations)) PlanFull
  gives Nothing (silent (PutStation (record { device = device })) ∷ [])
