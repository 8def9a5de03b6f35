-- The changes that lead to other tables are whole just where each group, station and agent that is held stays.
use Rattle.std.proofs.Common.{◌≡◌, inl, inr, List, [], ◌∷◌, ◌++◌, filter, map, Bool, refl, sym, subst}
use Rattle.std.specs.Cmp.{IsTotalOrder}
use Rattle.std.specs.declared.cmp.Ordering.{Ordering}
use Rattle.std.specs.declared.cmp.Ordering.TheVariants.{Equal}
use Rattle.acd_terms.specs.Lists.{Among, Every, IsAscending}
use Rattle.acd_terms.specs.declared.rows.Rows.{Rows}
use Rattle.acd_terms.specs.declared.record.GroupRecord.{GroupRecord}
use Rattle.acd_terms.specs.declared.record.StationRecord.{StationRecord}
use Rattle.acd_terms.specs.declared.record.AgentRecord.{AgentRecord}
use Rattle.acd_terms.specs.declared.record.CallRecord.{CallRecord}
use Rattle.acd_terms.specs.declared.record.ConnectionRecord.{ConnectionRecord}
use Rattle.acd_terms.specs.declared.record.MonitorRecord.{MonitorRecord}
use Rattle.acd_model.specs.Rules.Plan.{group_order, station_order, agent_order, call_order, connection_order, monitor_order}
use Rattle.acd_model.specs.declared.moves.Change.{Change}
use Rattle.acd_model.specs.declared.moves.Change.TheVariants.{Nothing, PutGroup, PutStation, PutAgent, PutCall, PutConnection, PutMonitor}
use Rattle.acd_lemmas.specs.Orders.{Orders}
use Rattle.acd_lemmas.proofs.KeyedLists.{cmp_self}
use Rattle.acd_lemmas.proofs.Lists.{every_among, every_from, every-append}
use Rattle.acd_lemmas.proofs.State.{groups_total, stations_total, agents_total}
use Rattle.acd_sql_differences.specs.DifferenceSteps.{Step, gone, put, change_by, IsNoKey, merged, differences}
use Rattle.acd_sql_differences.specs.ChangeOrder.{group_eq, station_eq, agent_eq, call_eq, connection_eq, monitor_eq, none_gone, call_gone, connection_gone, monitor_gone, unseated, stays, plan_differences, traffic_differences, rows_differences}
use Rattle.acd_sql_differences.specs.Transition.{AreWhole, KeepsPlan}
use Rattle.acd_sql_differences.proofs.Differences.{names_gone}
use Rattle.acd_sql_differences.proofs.Transitions.{ascending_same, unseated_numbers, whole_front, whole_back}

module _ {T : Type 0} (off on : T → Change) where
  -- each step makes a change
  whole_from : (steps : List (Step T)) → ((s : Step T) → Among s steps → change_by off on s ≡ Nothing → ⊥) → AreWhole (map (change_by off on) steps)
  whole_from [] h = tt
  whole_from (s ∷ steps) h = (h s (inl refl), whole_from steps (λ t a. h t (inr a)))

  whole_at : (steps : List (Step T)) (s : Step T) → AreWhole (map (change_by off on) steps) → Among s steps → change_by off on s ≡ Nothing → ⊥
  whole_at (t ∷ steps) s whole (inl is) = subst (λ x. change_by off on x ≡ Nothing → ⊥) (sym is) whole.0
  whole_at (t ∷ steps) s whole (inr a) = whole_at steps s whole.1 a
  whole_at [] s whole a = absurd a

  module _ (cmp : T → T → Ordering) (same : T → T → Bool) (puts : (y : T) → on y ≡ Nothing → ⊥) where
    -- a removal is always named
    always_whole : ((x : T) → off x ≡ Nothing → ⊥) → (held new : List T) → AreWhole (differences cmp same off on held new)
    always_whole outs held new = whole_from (merged cmp same held new) (λ s a. each s)
      where
        each : (s : Step T) → change_by off on s ≡ Nothing → ⊥
        each (gone x) = outs x
        each (put y) = puts y

    module _ (total : IsTotalOrder cmp) (held new : List T) (h : IsAscending cmp held) (k : IsAscending cmp new) where
      keeps_whole : Every (λ x. IsNoKey cmp x new → ⊥) held → AreWhole (differences cmp same off on held new)
      keeps_whole stay = whole_from (merged cmp same held new) each
        where
          each : (s : Step T) → Among s (merged cmp same held new) → change_by off on s ≡ Nothing → ⊥
          each (gone x) a none = let was = (names_gone cmp total same held new h k x).0 a in every_among (λ y. IsNoKey cmp y new → ⊥) held x stay was.0 was.1
          each (put y) a none = puts y none

      whole_keeps : ((x : T) → off x ≡ Nothing) → AreWhole (differences cmp same off on held new) → Every (λ x. IsNoKey cmp x new → ⊥) held
      whole_keeps never whole =
          every_from (λ x. IsNoKey cmp x new → ⊥) held
          (λ x a alone. whole_at (merged cmp same held new) (gone x) whole ((names_gone cmp total same held new h k x).1 (a, alone)) (never x))

-- ---- agents, who are in between without the stations that they give up

abbrev StaysIn : List AgentRecord → AgentRecord → Type 0
StaysIn new x = IsNoKey agent_order x new → ⊥

same_agents : (new all : List AgentRecord) (xs : List AgentRecord)
    → (Every (StaysIn all) (map (unseated new) xs) → Every (StaysIn all) xs) × (Every (StaysIn all) xs → Every (StaysIn all) (map (unseated new) xs))
unfolding unseated
same_agents new all [] = (λ h. tt, λ h. tt)
same_agents new all (x ∷ xs) = let rest = same_agents new all xs in (λ h. (h.0, rest.0 h.1), λ h. (h.0, rest.1 h.1))

-- an agent of the same number is there
among_unseated : (new xs : List AgentRecord) (x : AgentRecord) → Among x xs → IsNoKey agent_order x (map (unseated new) xs) → ⊥
unfolding unseated
among_unseated new [] x a alone = absurd a
among_unseated new (y ∷ ys) x (inl is) alone = alone.0 (subst (λ z. agent_order x z ≡ Equal) is (cmp_self x.agent x.agent refl))
among_unseated new (y ∷ ys) x (inr a) alone = among_unseated new ys x a alone.1

-- ---- no change is none

no_group : (y : GroupRecord) → PutGroup y ≡ Nothing → ⊥
no_group y e = absurd (cc e)

no_station : (y : StationRecord) → PutStation y ≡ Nothing → ⊥
no_station y e = absurd (cc e)

no_agent : (y : AgentRecord) → PutAgent y ≡ Nothing → ⊥
no_agent y e = absurd (cc e)

no_call : (y : CallRecord) → PutCall y ≡ Nothing → ⊥
no_call y e = absurd (cc e)

no_connection : (y : ConnectionRecord) → PutConnection y ≡ Nothing → ⊥
no_connection y e = absurd (cc e)

no_monitor : (y : MonitorRecord) → PutMonitor y ≡ Nothing → ⊥
no_monitor y e = absurd (cc e)

gone_call : (x : CallRecord) → call_gone x ≡ Nothing → ⊥
gone_call x e = absurd (cc e)

gone_connection : (x : ConnectionRecord) → connection_gone x ≡ Nothing → ⊥
gone_connection x e = absurd (cc e)

gone_monitor : (x : MonitorRecord) → monitor_gone x ≡ Nothing → ⊥
gone_monitor x e = absurd (cc e)

-- ---- all of them

module _ (held new : Rows) (o : Orders held) (n : Orders new) where
  abbrev between : List AgentRecord
  between = map (unseated new.agents) held.agents

  between_rises : IsAscending agent_order between
  between_rises = ascending_same between held.agents (unseated_numbers new.agents held.agents) o.agents

  plan_whole : KeepsPlan held new → AreWhole (plan_differences held new)
  unfolding plan_differences
  plan_whole keeps =
      every-append (λ c. c ≡ Nothing → ⊥) _ _
      (keeps_whole none_gone PutGroup group_order group_eq no_group groups_total held.groups new.groups o.groups n.groups keeps.groups)
      (every-append (λ c. c ≡ Nothing → ⊥) _ _
      (keeps_whole none_gone PutStation station_order station_eq no_station stations_total held.stations new.stations o.stations n.stations keeps.stations)
      (every-append (λ c. c ≡ Nothing → ⊥) _ _
      (keeps_whole none_gone PutAgent agent_order agent_eq no_agent agents_total held.agents between o.agents between_rises
      (every_from (StaysIn between) held.agents (λ x a. among_unseated new.agents held.agents x a)))
      (keeps_whole none_gone PutAgent agent_order agent_eq no_agent agents_total between new.agents between_rises n.agents
      ((same_agents new.agents new.agents held.agents).1 keeps.agents))))

  whole_plan : AreWhole (plan_differences held new) → KeepsPlan held new
  unfolding plan_differences
  whole_plan whole =
      let after_groups = whole_back (differences group_order group_eq none_gone PutGroup held.groups new.groups) _ whole in
      let after_stations = whole_back (differences station_order station_eq none_gone PutStation held.stations new.stations) _ after_groups in
      let last = whole_back (differences agent_order agent_eq none_gone PutAgent held.agents between) _ after_stations in
      record {
        groups =
            whole_keeps none_gone PutGroup group_order group_eq no_group groups_total held.groups new.groups o.groups n.groups (λ x. refl)
            (whole_front _ _ whole);
        stations =
            whole_keeps none_gone PutStation station_order station_eq no_station stations_total held.stations new.stations o.stations n.stations (λ x. refl)
            (whole_front _ _ after_groups);
        agents =
            (same_agents new.agents new.agents held.agents).0
            (whole_keeps none_gone PutAgent agent_order agent_eq no_agent agents_total between new.agents between_rises n.agents (λ x. refl) last);
      }

  abbrev Whole : Change → Type 0
  Whole c = c ≡ Nothing → ⊥

  traffic_whole : AreWhole (traffic_differences held new)
  unfolding traffic_differences
  traffic_whole =
      let kept = filter (stays new.connections) held.connections in
      let connections_go = differences connection_order connection_eq connection_gone PutConnection held.connections kept in
      let calls = differences call_order call_eq call_gone PutCall held.calls new.calls in
      let connections_come = differences connection_order connection_eq connection_gone PutConnection kept new.connections in
      let monitors = differences monitor_order monitor_eq monitor_gone PutMonitor held.monitors new.monitors in
      every-append Whole connections_go (calls ++ (connections_come ++ monitors))
      (always_whole connection_gone PutConnection connection_order connection_eq no_connection gone_connection held.connections kept)
      (every-append Whole calls (connections_come ++ monitors)
      (always_whole call_gone PutCall call_order call_eq no_call gone_call held.calls new.calls)
      (every-append Whole connections_come monitors
      (always_whole connection_gone PutConnection connection_order connection_eq no_connection gone_connection kept new.connections)
      (always_whole monitor_gone PutMonitor monitor_order monitor_eq no_monitor gone_monitor held.monitors new.monitors)))

-- the whole
pub keeps_plan : (held new : Rows) (all : List Change) → all ≡ rows_differences held new → Orders held → Orders new
    → (AreWhole all → KeepsPlan held new) × (KeepsPlan held new → AreWhole all)
unfolding rows_differences
keeps_plan held new all is o n = (
  λ whole. whole_plan held new o n (whole_front (plan_differences held new) (traffic_differences held new) (subst AreWhole is whole)),
  λ keeps. subst AreWhole (sym is) (every-append (λ c. c ≡ Nothing → ⊥) (plan_differences held new) (traffic_differences held new)
      (plan_whole held new o n keeps) (traffic_whole held new o n)),
)
