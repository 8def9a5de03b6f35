-- A report as columns: the one place that says which member is in which column.
use Rattle.std.specs.Prelude.{ℕ, Option, Some, None, option_map}
use Rattle.acd_terms.specs.declared.event.Cause.TheVariants.{Busy as StationBusy}
use Rattle.acd_terms.specs.declared.event.Report.{Report}
use Rattle.acd_terms.specs.declared.event.Report.TheVariants as report
use Rattle.acd_terms.specs.declared.event.EventKind.{EventKind}
use Rattle.acd_terms.specs.declared.event.EventKind.TheVariants as kind
use Rattle.acd_terms.specs.declared.event.Waited.{Waited}
use Rattle.acd_terms.specs.declared.event.Columns.{Columns}

-- of a call at a device
abbrev pub at_device : EventKind → ℕ → ℕ → Columns
at_device k call device = record { kind = k; device = Some device; call = Some call; agent = None; group = None; to = None; cause = None; waited = None }

-- of an agent at a station
abbrev pub of_agent : EventKind → ℕ → ℕ → Columns
of_agent k agent station = record { kind = k; device = Some station; call = None; agent = Some agent; group = None; to = None; cause = None; waited = None }

abbrev pub group_waited : Option Waited → Option ℕ
group_waited w = option_map (λ (x : Waited). x.group) w

abbrev pub seconds_waited : Option Waited → Option ℕ
seconds_waited w = option_map (λ (x : Waited). x.seconds) w

abbrev pub columns_of : Report → Columns
columns_of (report.ServiceInitiated call station) = at_device kind.ServiceInitiated call station
columns_of (report.Originated call station to) = record (at_device kind.Originated call station) { to = Some to }
columns_of (report.Queued call group cause) = record (at_device kind.Queued call group) { cause = Some cause }
columns_of (report.Delivered call station cause group) = record (at_device kind.Delivered call station) { cause = Some cause; group = group }
columns_of (report.Diverted call device to cause group) = record (at_device kind.Diverted call device) { to = Some to; cause = Some cause; group = group }
columns_of (report.Established call station waited) = record (at_device kind.Established call station) { group = group_waited waited; waited = seconds_waited waited }
columns_of (report.Held call station) = at_device kind.Held call station
columns_of (report.Retrieved call station) = at_device kind.Retrieved call station
columns_of (report.Transferred call station to) = record (at_device kind.Transferred call station) { to = Some to }
columns_of (report.Failed call station) = record (at_device kind.Failed call station) { cause = Some StationBusy }
columns_of (report.ConnectionCleared call device) = at_device kind.ConnectionCleared call device
columns_of (report.CallCleared call group) = record { kind = kind.CallCleared; device = None; call = Some call; agent = None; group = group; to = None; cause = None; waited = None }
columns_of (report.AgentLoggedOn agent station group) = record (of_agent kind.AgentLoggedOn agent station) { group = group }
columns_of (report.AgentLoggedOff agent station) = of_agent kind.AgentLoggedOff agent station
columns_of (report.AgentNotReady agent station) = of_agent kind.AgentNotReady agent station
columns_of (report.AgentReady agent station) = of_agent kind.AgentReady agent station
columns_of (report.AgentBusy agent station) = of_agent kind.AgentBusy agent station
columns_of (report.AgentWorkingAfterCall agent station) = of_agent kind.AgentWorkingAfterCall agent station
