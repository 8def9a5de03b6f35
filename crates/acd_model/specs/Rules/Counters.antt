-- The rule counters.
use Rattle.std.specs.Prelude.{◌*◌, Bool, true, ◌&&◌, Option, Some, None, nat_le}
use Rattle.std.specs.List.{list_all}
use Rattle.acd_terms.specs.Lists.{count}
use Rattle.acd_terms.specs.Numbers.{Moment, Stamp}
use Rattle.acd_terms.specs.declared.rows.Rows.{Rows}
use Rattle.acd_terms.specs.declared.record.AgentRecord.{AgentRecord}
use Rattle.acd_terms.specs.declared.record.CallRecord.{CallRecord}
use Rattle.acd_terms.specs.declared.record.Figures.{Figures}
use Rattle.acd_terms.specs.declared.record.GroupRecord.{GroupRecord}
use Rattle.acd_terms.specs.declared.record.ConnectionRecord.{ConnectionRecord}
use Rattle.acd_model.specs.Scans.{has}

abbrev pub is_stamp : Rows → Stamp → Bool
is_stamp s k = nat_le 1 k && nat_le k s.last_stamp

abbrev pub is_moment_or_none : Rows → Option Moment → Bool
is_moment_or_none s None = true
is_moment_or_none s (Some moment) = nat_le moment s.last_moment

-- the connection has the place
abbrev pub has_place : Stamp → ConnectionRecord → Bool
has_place p x = has x.place p

-- the place is a stamp, and no other connection has it
abbrev pub is_unique_place : Rows → Option Stamp → Bool
is_unique_place s None = true
is_unique_place s (Some p) = is_stamp s p && nat_le (count (has_place p) s.connections) 1

abbrev pub is_offered_after : Option Moment → Option Moment → Bool
is_offered_after (Some queued) (Some offered) = nat_le queued offered
is_offered_after _ _ = true

abbrev pub is_timed : Rows → ConnectionRecord → Bool
is_timed s x =
    is_unique_place s x.place && is_moment_or_none s x.queued && is_moment_or_none s x.offered && is_offered_after x.queued x.offered

-- the stamp of the agent was given, and the moment of its state is no later than the last
abbrev pub is_agent_timed : Rows → AgentRecord → Bool
is_agent_timed s a = is_stamp s a.stamp && nat_le a.since s.last_moment

-- the call arrived no later than the last moment
abbrev pub is_call_timed : Rows → CallRecord → Bool
is_call_timed s c = nat_le c.since s.last_moment

-- the stamps, places and moments of agents, calls and connections are no later than the last
abbrev pub are_timed : Rows → Bool
are_timed s = list_all (is_agent_timed s) s.agents && list_all (is_call_timed s) s.calls && list_all (is_timed s) s.connections

-- no more calls entered than stamps were given, and no more went each way than entered
abbrev pub are_countable : Stamp → Figures → Bool
are_countable last f = nat_le f.entered last && nat_le f.answered f.entered && nat_le f.abandoned f.entered && nat_le f.moved f.entered

-- a group's counts are no more than is possible
abbrev pub is_countable : Rows → GroupRecord → Bool
is_countable s g = are_countable s.last_stamp g.figures && nat_le g.figures.waited (g.figures.answered * s.last_moment)

-- stamps and places from 1 to the last stamp, moments up to the last, figures and events within bounds
unfoldable pub keeps_counters : Rows → Bool
keeps_counters s = are_timed s && list_all (is_countable s) s.groups && nat_le s.last_event (100000 * s.last_stamp)
