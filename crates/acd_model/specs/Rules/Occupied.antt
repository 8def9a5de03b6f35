-- The rules occupied, offer and balance.
use Rattle.std.specs.Prelude.{◌+◌, Bool, true, false, not, ◌&&◌, ◌||◌, ◌==◌, List, [], ◌∷◌, Option, Some, None, is_none, nat_le}
use Rattle.std.specs.List.{list_all, list_any}
use Rattle.acd_terms.specs.Lists.{count}
use Rattle.acd_terms.specs.States.{is_distributed, is_alerting, is_answered, is_ready, is_busy, is_queued}
use Rattle.acd_terms.specs.Numbers.{Device}
use Rattle.acd_terms.specs.declared.rows.Rows.{Rows}
use Rattle.acd_terms.specs.declared.record.AgentRecord.{AgentRecord}
use Rattle.acd_terms.specs.declared.record.GroupRecord.{GroupRecord}
use Rattle.acd_terms.specs.declared.record.ConnectionRecord.{ConnectionRecord}
use Rattle.acd_model.specs.Scans.{agent_at, is_occupied, waiting_in, eligible_in, has}
use Rattle.acd_model.specs.OneOffer.{is_distributed_at}

-- an agent there, ready where the connection alerts and busy where it is answered
abbrev pub attends : ConnectionRecord → Option AgentRecord → Bool
attends x None = false
attends x (Some a) = (is_alerting x.state && is_ready a.state) || (is_answered x.state && is_busy a.state)

-- a distributed connection is the one at its station, and its agent is there
abbrev pub is_attended : Rows → ConnectionRecord → Bool
is_attended s x =
    not (is_distributed x)
    || (nat_le (count (is_distributed_at x.device) s.connections) 1 && attends x (agent_at s x.device))

-- the connection is distributed and answered, at the agent's station
abbrev pub talks_on : AgentRecord → ConnectionRecord → Bool
talks_on a x = has a.station x.device && is_distributed x && is_answered x.state

-- there is such a connection
abbrev pub is_talking : Rows → AgentRecord → Bool
is_talking s a = list_any (talks_on a) s.connections

-- a busy agent talks, and a state is pending only for an occupied one
abbrev pub is_busy_only_talking : Rows → AgentRecord → Bool
is_busy_only_talking s a = (not (is_busy a.state) || is_talking s a) && (is_none a.pending || is_occupied s a)

unfoldable pub keeps_occupied : Rows → Bool
keeps_occupied s = list_all (is_attended s) s.connections && list_all (is_busy_only_talking s) s.agents

abbrev pub is_empty : {T : Type 0} → List T → Bool
is_empty [] = true
is_empty (x ∷ xs) = false

-- the group has not both a waiting call and an eligible agent
abbrev pub has_no_offer : Rows → Device → Bool
has_no_offer s group = is_empty (waiting_in s group) || is_empty (eligible_in s group)

unfoldable pub keeps_offer : Rows → Bool
keeps_offer s = list_all (λ (g : GroupRecord). has_no_offer s g.device) s.groups

-- it waits in the group
abbrev pub waits_in : Device → ConnectionRecord → Bool
waits_in group x = x.device == group && is_queued x.state

-- it rings by distribution from the group
abbrev pub rings_from : Device → ConnectionRecord → Bool
rings_from group x = has x.group group && is_alerting x.state

-- entered is what waits, rings, was answered, was abandoned and was moved
abbrev pub is_balanced : Rows → GroupRecord → Bool
is_balanced s g =
    g.figures.entered == count (waits_in g.device) s.connections + count (rings_from g.device) s.connections
    + g.figures.answered + g.figures.abandoned + g.figures.moved

unfoldable pub keeps_balance : Rows → Bool
keeps_balance s = list_all (is_balanced s) s.groups
