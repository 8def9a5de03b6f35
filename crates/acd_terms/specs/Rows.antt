-- The state of a new switch.
use Rattle.std.specs.Prelude.{[]}
use Rattle.acd_terms.specs.declared.rows.Rows.{Rows}
use Rattle.acd_terms.specs.declared.rows.Limits.{Limits}

-- the state with empty lists and counters of 0
abbrev pub empty_rows : Limits → Rows
empty_rows limits = record {
  limits = limits;
  groups = [];
  stations = [];
  agents = [];
  calls = [];
  connections = [];
  monitors = [];
  last_stamp = 0;
  last_moment = 0;
  last_call = 0;
  last_monitor = 0;
  last_event = 0;
}
