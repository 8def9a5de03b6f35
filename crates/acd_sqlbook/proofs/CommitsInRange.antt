-- A commit keeps each value in its range.
use Rattle.std.proofs.Common.{List, [], ◌∷◌, Result, Ok, Err, OnOk}
use Rattle.std.specs.Ordering.{nat_cmp}
use Rattle.sqlite.specs.declared.error.Error.{Error}
use Rattle.sqlite.specs.State.{State}
use Rattle.acd_terms.specs.Lists.{Every}
use Rattle.acd_terms.specs.declared.event.Event.{Event}
use Rattle.acd_model.specs.Scans.{at_group, at_station, at_agent, at_call, at_connection, at_monitor}
use Rattle.acd_model.specs.Writes.{with_group, with_station, with_agent, with_call, with_connection, with_monitor, without_call, without_connection, without_monitor}
use Rattle.acd_model.specs.declared.moves.Change.{Change}
use Rattle.acd_model.specs.declared.moves.Change.TheVariants.{Nothing, PutGroup, PutStation, PutAgent, PutCall, PutConnection, PutMonitor, RemoveCall, RemoveConnection, RemoveMonitor}
use Rattle.acd_lemmas.proofs.Lists.{every-put, every-remove}
use Rattle.acd_book.specs.Content.{Content}
use Rattle.acd_book.specs.declared.kept.Kept.{Kept}
use Rattle.acd_sql_columns.specs.declared.meta.Meta.{Meta}
use Rattle.acd_sql_columns.specs.InRange.{IsInRange, IsGoodMeta, IsGoodGroup, IsGoodStation, IsGoodAgent, IsGoodCall, IsGoodConnection, IsGoodMonitor, IsGoodEvent, IsGoodKept}
use Rattle.acd_sql_columns.specs.Transactions.{HoldsGood}
use Rattle.acd_sql_columns.proofs.Rows.KeptInRange.{AllGood, goods, in_range}
use Rattle.acd_sqlbook.specs.Commit.{IsGoodChange, MakesOfEach, MakesTablesOfEach, applied, content_with_event, with_events, with_kept, with_meta}

-- ---- of each record

all_applied_good : (v : Change) → IsGoodChange v → (c : Content) → AllGood c → AllGood (applied c v)
unfolding with_group with_station with_agent with_call with_connection with_monitor without_call without_connection without_monitor
all_applied_good Nothing good c h =
    record {
      meta = h.meta;
      groups = h.groups;
      stations = h.stations;
      agents = h.agents;
      calls = h.calls;
      connections = h.connections;
      monitors = h.monitors;
      events = h.events;
      kept = h.kept;
    }
all_applied_good (PutGroup g) good c h = record {
  meta = h.meta;
  groups = every-put (at_group g.device) IsGoodGroup g good c.rows.groups h.groups;
  stations = h.stations;
  agents = h.agents;
  calls = h.calls;
  connections = h.connections;
  monitors = h.monitors;
  events = h.events;
  kept = h.kept;
}
all_applied_good (PutStation s) good c h = record {
  meta = h.meta;
  groups = h.groups;
  stations = every-put (at_station s.device) IsGoodStation s good c.rows.stations h.stations;
  agents = h.agents;
  calls = h.calls;
  connections = h.connections;
  monitors = h.monitors;
  events = h.events;
  kept = h.kept;
}
all_applied_good (PutAgent a) good c h = record {
  meta = h.meta;
  groups = h.groups;
  stations = h.stations;
  agents = every-put (at_agent a.agent) IsGoodAgent a good c.rows.agents h.agents;
  calls = h.calls;
  connections = h.connections;
  monitors = h.monitors;
  events = h.events;
  kept = h.kept;
}
all_applied_good (PutCall k) good c h = record {
  meta = h.meta;
  groups = h.groups;
  stations = h.stations;
  agents = h.agents;
  calls = every-put (at_call k.call) IsGoodCall k good c.rows.calls h.calls;
  connections = h.connections;
  monitors = h.monitors;
  events = h.events;
  kept = h.kept;
}
all_applied_good (PutConnection x) good c h = record {
  meta = h.meta;
  groups = h.groups;
  stations = h.stations;
  agents = h.agents;
  calls = h.calls;
  connections = every-put (at_connection x.call x.device) IsGoodConnection x good c.rows.connections h.connections;
  monitors = h.monitors;
  events = h.events;
  kept = h.kept;
}
all_applied_good (PutMonitor w) good c h = record {
  meta = h.meta;
  groups = h.groups;
  stations = h.stations;
  agents = h.agents;
  calls = h.calls;
  connections = h.connections;
  monitors = every-put (at_monitor w.monitor) IsGoodMonitor w good c.rows.monitors h.monitors;
  events = h.events;
  kept = h.kept;
}
all_applied_good (RemoveCall call) good c h = record {
  meta = h.meta;
  groups = h.groups;
  stations = h.stations;
  agents = h.agents;
  calls = every-remove (at_call call) IsGoodCall c.rows.calls h.calls;
  connections = h.connections;
  monitors = h.monitors;
  events = h.events;
  kept = h.kept;
}
all_applied_good (RemoveConnection call device) good c h = record {
  meta = h.meta;
  groups = h.groups;
  stations = h.stations;
  agents = h.agents;
  calls = h.calls;
  connections = every-remove (at_connection call device) IsGoodConnection c.rows.connections h.connections;
  monitors = h.monitors;
  events = h.events;
  kept = h.kept;
}
all_applied_good (RemoveMonitor monitor) good c h = record {
  meta = h.meta;
  groups = h.groups;
  stations = h.stations;
  agents = h.agents;
  calls = h.calls;
  connections = h.connections;
  monitors = every-remove (at_monitor monitor) IsGoodMonitor c.rows.monitors h.monitors;
  events = h.events;
  kept = h.kept;
}

event_good : (e : Event) → IsGoodEvent e → (c : Content) → AllGood c → AllGood (content_with_event c e)
event_good e good c h = record {
  meta = h.meta;
  groups = h.groups;
  stations = h.stations;
  agents = h.agents;
  calls = h.calls;
  connections = h.connections;
  monitors = h.monitors;
  events = every-put (λ (x : Event). nat_cmp e.number x.number) IsGoodEvent e good c.events h.events;
  kept = h.kept;
}

events_good : (es : List Event) → Every IsGoodEvent es → (c : Content) → AllGood c → AllGood (with_events c es)
events_good [] good c h = h
events_good (e ∷ es) good c h = events_good es good.1 (content_with_event c e) (event_good e good.0 c h)

kept_record_good : (k : Kept) → IsGoodKept k → (c : Content) → AllGood c → AllGood (with_kept c k)
kept_record_good k good c h = record {
  meta = h.meta;
  groups = h.groups;
  stations = h.stations;
  agents = h.agents;
  calls = h.calls;
  connections = h.connections;
  monitors = h.monitors;
  events = h.events;
  kept = every-put (λ (x : Kept). nat_cmp k.stamp x.stamp) IsGoodKept k good c.kept h.kept;
}

counters_good : (m : Meta) → IsGoodMeta m → (c : Content) → AllGood c → AllGood (with_meta m c)
counters_good m good c h =
    record {
      meta = good;
      groups = h.groups;
      stations = h.stations;
      agents = h.agents;
      calls = h.calls;
      connections = h.connections;
      monitors = h.monitors;
      events = h.events;
      kept = h.kept;
    }

-- ---- of a content

pub applied_in_range : (v : Change) → IsGoodChange v → (c : Content) → IsInRange c → IsInRange (applied c v)
applied_in_range v good c h = in_range (applied c v) (all_applied_good v good c (goods c h))

pub events_in_range : (es : List Event) → Every IsGoodEvent es → (c : Content) → IsInRange c → IsInRange (with_events c es)
events_in_range es good c h = in_range (with_events c es) (events_good es good c (goods c h))

pub kept_in_range : (k : Kept) → IsGoodKept k → (c : Content) → IsInRange c → IsInRange (with_kept c k)
kept_in_range k good c h = in_range (with_kept c k) (kept_record_good k good c (goods c h))

pub meta_in_range : (m : Meta) → IsGoodMeta m → (c : Content) → IsInRange c → IsInRange (with_meta m c)
meta_in_range m good c h = in_range (with_meta m c) (counters_good m good c (goods c h))

-- a write whose values are in their ranges keeps them so
pub ranging : (old new : State) (r : Result (Unit {0}) Error) (after : Content → Content) → ((c : Content) → IsInRange c → IsInRange (after c))
    → OnOk r (MakesTablesOfEach after old new) → OnOk r (MakesOfEach after old new)
ranging old new (Err e) after stays put = tt
ranging old new (Ok x) after stays put = λ (c : Content) (d : HoldsGood old c). record { relations = put c d.relations; range = stays c d.range }
