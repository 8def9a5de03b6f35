-- monitorStop: a monitor ends.
use Rattle.std.specs.Prelude.{[], ◌∷◌}
use Rattle.std.specs.Option.{ok_or}
use Rattle.acd_terms.specs.Numbers.{MonitorId}
use Rattle.acd_terms.specs.Results.{◌>>◌}
use Rattle.acd_terms.specs.declared.rows.Rows.{Rows}
use Rattle.acd_terms.specs.declared.answer.Answer.TheVariants.{Nothing}
use Rattle.acd_terms.specs.declared.answer.Refusal.TheVariants.{UnknownMonitor}
use Rattle.acd_model.specs.Scans.{monitor_of}
use Rattle.acd_model.specs.Moves.{silent}
use Rattle.acd_model.specs.ServiceAnswers.{Served, gives}
use Rattle.acd_model.specs.declared.moves.Change.TheVariants.{RemoveMonitor}

unfoldable pub monitor_stop : Rows → MonitorId → Served
monitor_stop s monitor = do
  ok_or (monitor_of s monitor) UnknownMonitor
  gives Nothing (silent (RemoveMonitor monitor) ∷ [])
