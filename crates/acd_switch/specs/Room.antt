-- The counters of a state have room in their types.
use Rattle.std.specs.Prelude.{◌<◌, ◌-◌, ◌+◌, ◌^◌, List, length}
use Rattle.acd_terms.specs.declared.command.Turn.{Turn}
use Rattle.acd_terms.specs.Numbers.{EventNumber}
use Rattle.acd_switch.specs.FigureSums.{AllFit}
use Rattle.acd_terms.specs.declared.rows.Rows.{Rows}
use Rattle.acd_terms.specs.declared.event.Event.{Event}
use Rattle.acd_model.specs.Writes.{with_last}
use Rattle.acd_model.specs.Figures.{with_figures}

-- one more request, call and monitor can be numbered
pub record HasRoom (s : Rows) : Type 0 where
  pub stamp : s.last_stamp < 2 ^ 64 - 1
  pub call : s.last_call < 2 ^ 64 - 1
  pub monitor : s.last_monitor < 2 ^ 64 - 1

-- the last event and the figures are numbers of 64 bits
pub record CountersFit (s : Rows) : Type 0 where
  pub event : s.last_event < 2 ^ 64
  pub figures : AllFit s.groups

-- the state once the events are counted and numbered on from the last one
abbrev pub closed : Rows → Turn → EventNumber → List Event → Rows
closed s turn last events = with_last (with_figures s events) turn.stamp turn.moment (last + length events)
