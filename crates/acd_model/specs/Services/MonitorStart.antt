-- monitorStart: a monitor on a planned device begins.
use Rattle.std.specs.Prelude.{◌+◌, not, [], ◌∷◌, length, nat_le}
use Rattle.acd_terms.specs.Numbers.{Device, MonitorId}
use Rattle.acd_terms.specs.Results.{◌>>◌}
use Rattle.acd_terms.specs.declared.rows.Rows.{Rows}
use Rattle.acd_terms.specs.declared.answer.Answer.TheVariants.{Monitor}
use Rattle.acd_terms.specs.declared.answer.Refusal.TheVariants.{UnknownDevice, PlanFull}
use Rattle.acd_model.specs.Scans.{is_planned}
use Rattle.acd_model.specs.Moves.{silent}
use Rattle.acd_model.specs.ServiceAnswers.{Served, refuse_if, gives}
use Rattle.acd_model.specs.declared.moves.Change.TheVariants.{PutMonitor}

-- the cross reference identifier of a new monitor
abbrev pub next_monitor : Rows → MonitorId
next_monitor s = s.last_monitor + 1

unfoldable pub monitor_start : Rows → Device → Served
monitor_start s device = do
  refuse_if (not (is_planned s device)) UnknownDevice
  refuse_if (nat_le s.limits.monitors (length s.monitors)) PlanFull
  gives (Monitor (next_monitor s)) (silent (PutMonitor (record { monitor = next_monitor s; device = device; after_event = s.last_event })) ∷ [])
