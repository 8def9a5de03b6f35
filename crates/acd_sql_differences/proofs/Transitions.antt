-- Changes of one table after the other lead from the tables of one state to those of another.
use Rattle.std.proofs.Common.{◌≡◌, append_assoc, filter, List, [], ◌∷◌, ◌++◌, map, Bool, true, refl, sym, ap, ap₂, subst, ◌∙◌}
use Rattle.std.specs.Ordering.{nat_cmp}
use Rattle.std.specs.declared.cmp.Ordering.{Ordering}
use Rattle.acd_terms.specs.Lists.{AllAfter, IsAscending, put_by, remove_by}
use Rattle.acd_terms.specs.declared.rows.Rows.{Rows}
use Rattle.acd_terms.specs.declared.record.GroupRecord.{GroupRecord}
use Rattle.acd_terms.specs.declared.record.StationRecord.{StationRecord}
use Rattle.acd_terms.specs.declared.record.AgentRecord.{AgentRecord}
use Rattle.acd_terms.specs.declared.record.CallRecord.{CallRecord}
use Rattle.acd_terms.specs.declared.record.ConnectionRecord.{ConnectionRecord}
use Rattle.acd_terms.specs.declared.record.MonitorRecord.{MonitorRecord}
use Rattle.acd_model.specs.Moves.{changed}
use Rattle.acd_model.specs.Changes.{changed_by}
use Rattle.acd_model.specs.Writes.{with_group, with_station, with_agent, with_call, with_connection, with_monitor, without_call, without_connection, without_monitor}
use Rattle.acd_model.specs.Rules.Plan.{group_order, station_order, agent_order, call_order, connection_order, monitor_order}
use Rattle.acd_model.specs.declared.moves.Change.{Change}
use Rattle.acd_model.specs.declared.moves.Change.TheVariants.{Nothing, PutGroup, PutStation, PutAgent, PutCall, PutConnection, PutMonitor, RemoveCall, RemoveConnection, RemoveMonitor}
use Rattle.acd_model.proofs.ChangeLemmas.{changed_by_append}
use Rattle.acd_lemmas.specs.Orders.{Orders}
use Rattle.acd_lemmas.proofs.SameRecords.{same_group, same_station, same_agent, same_call, same_connection, same_monitor}
use Rattle.acd_sql_differences.specs.DifferenceSteps.{Step, gone, put, change_by, stepped_list, LeadTo, differences}
use Rattle.acd_sql_differences.specs.ChangeOrder.{group_eq, station_eq, agent_eq, call_eq, connection_eq, monitor_eq, none_gone, call_gone, connection_gone, monitor_gone, unseated, stays, plan_differences, traffic_differences, rows_differences}
use Rattle.acd_sql_differences.specs.Transition.{HasTables, AreWhole, Lead, AddsSteps, with_plan}

tables_on : (a b c : Rows) → HasTables a b → HasTables b c → HasTables a c
tables_on a b c p q = record {
  groups = p.groups ∙ q.groups;
  stations = p.stations ∙ q.stations;
  agents = p.agents ∙ q.agents;
  calls = p.calls ∙ q.calls;
  connections = p.connections ∙ q.connections;
  monitors = p.monitors ∙ q.monitors;
}

-- a table of the state, and the changes of its records
pub record Kind {T : Type 0} (cmp : T → T → Ordering) (off on : T → Change) : Type 0 where
  pub get : Rows → List T
  pub set : Rows → List T → Rows
  pub get_set : (s : Rows) (xs : List T) → get (set s xs) ≡ xs
  pub get_same : (s t : Rows) → HasTables s t → get s ≡ get t
  pub set_itself : (s : Rows) → HasTables s (set s (get s))
  pub set_same : (s t : Rows) (xs : List T) → HasTables s t → HasTables (set s xs) (set t xs)
  pub set_twice : (s : Rows) (xs ys : List T) → HasTables (set (set s xs) ys) (set s ys)
  pub puts : (s : Rows) (y : T) → HasTables (changed s (on y)) (set s (put_by (cmp y) (get s) y))
  pub outs : (s : Rows) (x : T) → (off x ≡ Nothing → ⊥) → HasTables (changed s (off x)) (set s (remove_by (cmp x) (get s)))

pub whole_front : (front back : List Change) → AreWhole (front ++ back) → AreWhole front
whole_front [] back h = tt
whole_front (c ∷ front) back h = (h.0, whole_front front back h.1)

pub whole_back : (front back : List Change) → AreWhole (front ++ back) → AreWhole back
whole_back [] back h = h
whole_back (c ∷ front) back h = whole_back front back h.1

abbrev IsExact : {T : Type 0} → (T → T → Bool) → Type 0
IsExact {T} same = (x y : T) → same x y ≡ true → x ≡ y

module _ {T : Type 0} (cmp : T → T → Ordering) (off on : T → Change) (k : Kind cmp off on) where
  onward : (s next : Rows) (xs : List T) (steps : List (Step T)) → HasTables next (k.set s xs)
      → HasTables (k.set next (stepped_list cmp (k.get next) steps)) (k.set s (stepped_list cmp xs steps))
  onward s next xs steps h =
      let there : k.get next ≡ xs = k.get_same next (k.set s xs) h ∙ k.get_set s xs in
      subst (λ l. HasTables (k.set next (stepped_list cmp l steps)) (k.set s (stepped_list cmp xs steps))) (sym there)
      (tables_on _ _ _ (k.set_same next (k.set s xs) (stepped_list cmp xs steps) h) (k.set_twice s xs (stepped_list cmp xs steps)))

  steps_made : (s : Rows) (steps : List (Step T)) → AreWhole (map (change_by off on) steps)
      → HasTables (changed_by s (map (change_by off on) steps)) (k.set s (stepped_list cmp (k.get s) steps))
  steps_made s [] whole = k.set_itself s
  steps_made s (gone x ∷ steps) whole =
      tables_on _ _ _ (steps_made (changed s (off x)) steps whole.1) (onward s (changed s (off x)) (remove_by (cmp x) (k.get s)) steps (k.outs s x whole.0))
  steps_made s (put y ∷ steps) whole =
      tables_on _ _ _ (steps_made (changed s (on y)) steps whole.1) (onward s (changed s (on y)) (put_by (cmp y) (k.get s) y) steps (k.puts s y))

  leads : (same : T → T → Bool) → IsExact same → (s t : Rows) (new : List T) (more : List Change) → HasTables s t
      → IsAscending cmp (k.get t) → IsAscending cmp new
      → LeadTo cmp same off on (k.get t) new more → AreWhole more → HasTables (changed_by s more) (k.set t new)
  leads same exact s t new more h up next lead whole =
      let found = lead up next in
      let made = steps_made s found.0 (subst AreWhole found.2 whole) in
      let list : stepped_list cmp (k.get s) found.0 ≡ new = ap (λ l. stepped_list cmp l found.0) (k.get_same s t h) ∙ found.1.made exact in
      subst (λ c. HasTables (changed_by s c) (k.set t new)) (sym found.2)
      (tables_on _ _ _ (subst (λ l. HasTables (changed_by s (map (change_by off on) found.0)) (k.set s l)) list made) (k.set_same s t new h))

  -- more changes of one table
  next : (same : T → T → Bool) → IsExact same → (s t : Rows) (new : List T) (old now : List Change)
      → AddsSteps cmp same off on (k.get t) new old now → IsAscending cmp (k.get t) → IsAscending cmp new → AreWhole now
      → (AreWhole old → HasTables (changed_by s old) t) → HasTables (changed_by s now) (k.set t new)
  next same exact s t new old now adds up later whole so_far =
      let more = differences cmp same off on (k.get t) new in
      let parts = subst AreWhole adds.0 whole in
      let here = so_far (whole_front old more parts) in
      subst (λ l. HasTables (changed_by s l) (k.set t new)) (sym adds.0)
      (subst (λ r. HasTables r (k.set t new)) (sym (changed_by_append s old more))
      (leads same exact (changed_by s old) t new more here up later adds.1 (whole_back old more parts)))

-- ---- the tables

pub groups_kind : Kind group_order (λ (x : GroupRecord). Nothing) PutGroup
unfolding with_group
groups_kind = record {
  get = λ s. s.groups;
  set = λ s xs. record s { groups = xs };
  get_set = λ s xs. refl;
  get_same = λ s t h. h.groups;
  set_itself = λ s. record { groups = refl; stations = refl; agents = refl; calls = refl; connections = refl; monitors = refl };
  set_same = λ s t xs h. record {
    groups = refl;
    stations = h.stations;
    agents = h.agents;
    calls = h.calls;
    connections = h.connections;
    monitors = h.monitors;
  };
  set_twice = λ s xs ys. record { groups = refl; stations = refl; agents = refl; calls = refl; connections = refl; monitors = refl };
  puts = λ s y. record { groups = refl; stations = refl; agents = refl; calls = refl; connections = refl; monitors = refl };
  outs = λ s x whole. absurd (whole refl);
}

pub stations_kind : Kind station_order (λ (x : StationRecord). Nothing) PutStation
unfolding with_station
stations_kind = record {
  get = λ s. s.stations;
  set = λ s xs. record s { stations = xs };
  get_set = λ s xs. refl;
  get_same = λ s t h. h.stations;
  set_itself = λ s. record { groups = refl; stations = refl; agents = refl; calls = refl; connections = refl; monitors = refl };
  set_same = λ s t xs h. record { groups = h.groups; stations = refl; agents = h.agents; calls = h.calls; connections = h.connections; monitors = h.monitors };
  set_twice = λ s xs ys. record { groups = refl; stations = refl; agents = refl; calls = refl; connections = refl; monitors = refl };
  puts = λ s y. record { groups = refl; stations = refl; agents = refl; calls = refl; connections = refl; monitors = refl };
  outs = λ s x whole. absurd (whole refl);
}

pub agents_kind : Kind agent_order (λ (x : AgentRecord). Nothing) PutAgent
unfolding with_agent
agents_kind = record {
  get = λ s. s.agents;
  set = λ s xs. record s { agents = xs };
  get_set = λ s xs. refl;
  get_same = λ s t h. h.agents;
  set_itself = λ s. record { groups = refl; stations = refl; agents = refl; calls = refl; connections = refl; monitors = refl };
  set_same = λ s t xs h. record {
    groups = h.groups;
    stations = h.stations;
    agents = refl;
    calls = h.calls;
    connections = h.connections;
    monitors = h.monitors;
  };
  set_twice = λ s xs ys. record { groups = refl; stations = refl; agents = refl; calls = refl; connections = refl; monitors = refl };
  puts = λ s y. record { groups = refl; stations = refl; agents = refl; calls = refl; connections = refl; monitors = refl };
  outs = λ s x whole. absurd (whole refl);
}

pub calls_kind : Kind call_order (λ (x : CallRecord). RemoveCall x.call) PutCall
unfolding with_call without_call
calls_kind = record {
  get = λ s. s.calls;
  set = λ s xs. record s { calls = xs };
  get_set = λ s xs. refl;
  get_same = λ s t h. h.calls;
  set_itself = λ s. record { groups = refl; stations = refl; agents = refl; calls = refl; connections = refl; monitors = refl };
  set_same = λ s t xs h. record {
    groups = h.groups;
    stations = h.stations;
    agents = h.agents;
    calls = refl;
    connections = h.connections;
    monitors = h.monitors;
  };
  set_twice = λ s xs ys. record { groups = refl; stations = refl; agents = refl; calls = refl; connections = refl; monitors = refl };
  puts = λ s y. record { groups = refl; stations = refl; agents = refl; calls = refl; connections = refl; monitors = refl };
  outs = λ s x whole. record { groups = refl; stations = refl; agents = refl; calls = refl; connections = refl; monitors = refl };
}

pub connections_kind : Kind connection_order (λ (x : ConnectionRecord). RemoveConnection x.call x.device) PutConnection
unfolding with_connection without_connection
connections_kind = record {
  get = λ s. s.connections;
  set = λ s xs. record s { connections = xs };
  get_set = λ s xs. refl;
  get_same = λ s t h. h.connections;
  set_itself = λ s. record { groups = refl; stations = refl; agents = refl; calls = refl; connections = refl; monitors = refl };
  set_same = λ s t xs h. record { groups = h.groups; stations = h.stations; agents = h.agents; calls = h.calls; connections = refl; monitors = h.monitors };
  set_twice = λ s xs ys. record { groups = refl; stations = refl; agents = refl; calls = refl; connections = refl; monitors = refl };
  puts = λ s y. record { groups = refl; stations = refl; agents = refl; calls = refl; connections = refl; monitors = refl };
  outs = λ s x whole. record { groups = refl; stations = refl; agents = refl; calls = refl; connections = refl; monitors = refl };
}

pub monitors_kind : Kind monitor_order (λ (x : MonitorRecord). RemoveMonitor x.monitor) PutMonitor
unfolding with_monitor without_monitor
monitors_kind = record {
  get = λ s. s.monitors;
  set = λ s xs. record s { monitors = xs };
  get_set = λ s xs. refl;
  get_same = λ s t h. h.monitors;
  set_itself = λ s. record { groups = refl; stations = refl; agents = refl; calls = refl; connections = refl; monitors = refl };
  set_same = λ s t xs h. record { groups = h.groups; stations = h.stations; agents = h.agents; calls = h.calls; connections = h.connections; monitors = refl };
  set_twice = λ s xs ys. record { groups = refl; stations = refl; agents = refl; calls = refl; connections = refl; monitors = refl };
  puts = λ s y. record { groups = refl; stations = refl; agents = refl; calls = refl; connections = refl; monitors = refl };
  outs = λ s x whole. record { groups = refl; stations = refl; agents = refl; calls = refl; connections = refl; monitors = refl };
}

-- ---- all of them, one after the other

-- the groups, the stations and the agents, who are first without the stations that they give up
pub plan_leads : (held new : Rows) (agents : List AgentRecord) (c0 c1 c2 c3 c4 : List Change) → c0 ≡ []
    → AddsSteps group_order group_eq none_gone PutGroup held.groups new.groups c0 c1
    → AddsSteps station_order station_eq none_gone PutStation held.stations new.stations c1 c2
    → AddsSteps agent_order agent_eq none_gone PutAgent held.agents agents c2 c3 → AddsSteps agent_order agent_eq none_gone PutAgent agents new.agents c3 c4
    → (IsAscending agent_order held.agents → IsAscending agent_order agents) → Lead held (with_plan held new) c4
unfolding groups_kind stations_kind agents_kind
plan_leads held new agents c0 c1 c2 c3 c4 none a1 a2 a3 a4 agents_up s has_tables o n whole =
    let t1 : Rows = record held { groups = new.groups } in
    let t2 : Rows = record t1 { stations = new.stations } in
    let t3 : Rows = record t2 { agents = agents } in
    let rising = agents_up o.agents in
    let at0 : AreWhole c0 → HasTables (changed_by s c0) held = λ w. subst (λ l. HasTables (changed_by s l) held) (sym none) has_tables in
    let at1 : AreWhole c1 → HasTables (changed_by s c1) t1 =
    λ w. next group_order none_gone PutGroup groups_kind group_eq same_group s held new.groups c0 c1 a1 o.groups n.groups w at0 in
    let at2 : AreWhole c2 → HasTables (changed_by s c2) t2 =
    λ w. next station_order none_gone PutStation stations_kind station_eq same_station s t1 new.stations c1 c2 a2 o.stations n.stations w at1 in
    let at3 : AreWhole c3 → HasTables (changed_by s c3) t3 =
    λ w. next agent_order none_gone PutAgent agents_kind agent_eq same_agent s t2 agents c2 c3 a3 o.agents rising w at2 in
    let last = next agent_order none_gone PutAgent agents_kind agent_eq same_agent s t3 new.agents c3 c4 a4 rising n.agents whole at3 in
    record {
      groups = last.groups;
      stations = last.stations;
      agents = last.agents;
      calls = last.calls;
      connections = last.connections;
      monitors = last.monitors;
    }

-- the connections that go, the calls, the connections that are put, and the monitors
pub traffic_leads : (held new : Rows) (connections : List ConnectionRecord) (c0 c1 c2 c3 c4 : List Change) → c0 ≡ []
    → AddsSteps connection_order connection_eq connection_gone PutConnection held.connections connections c0 c1
    → AddsSteps call_order call_eq call_gone PutCall held.calls new.calls c1 c2
    → AddsSteps connection_order connection_eq connection_gone PutConnection connections new.connections c2 c3
    → AddsSteps monitor_order monitor_eq monitor_gone PutMonitor held.monitors new.monitors c3 c4
    → (IsAscending connection_order held.connections → IsAscending connection_order connections) → Lead (with_plan held new) new c4
unfolding calls_kind connections_kind monitors_kind
traffic_leads held new connections c0 c1 c2 c3 c4 none a1 a2 a3 a4 connections_up s has_tables o n whole =
    let t0 : Rows = with_plan held new in
    let t1 : Rows = record t0 { connections = connections } in
    let t2 : Rows = record t1 { calls = new.calls } in
    let t3 : Rows = record t2 { connections = new.connections } in
    let rising = connections_up o.connections in
    let at0 : AreWhole c0 → HasTables (changed_by s c0) t0 = λ w. subst (λ l. HasTables (changed_by s l) t0) (sym none) has_tables in
    let at1 : AreWhole c1 → HasTables (changed_by s c1) t1 =
    λ w. next connection_order connection_gone PutConnection connections_kind connection_eq same_connection s t0 connections c0 c1 a1 o.connections rising w
    at0 in
    let at2 : AreWhole c2 → HasTables (changed_by s c2) t2 =
    λ w. next call_order call_gone PutCall calls_kind call_eq same_call s t1 new.calls c1 c2 a2 o.calls n.calls w at1 in
    let at3 : AreWhole c3 → HasTables (changed_by s c3) t3 =
    λ w. next connection_order connection_gone PutConnection connections_kind connection_eq same_connection s t2 new.connections c2 c3 a3 rising
    n.connections w at2 in
    let last = next monitor_order monitor_gone PutMonitor monitors_kind monitor_eq same_monitor s t3 new.monitors c3 c4 a4 o.monitors n.monitors whole at3 in
    record {
      groups = last.groups;
      stations = last.stations;
      agents = last.agents;
      calls = last.calls;
      connections = last.connections;
      monitors = last.monitors;
    }

-- one after the other
pub both_lead : (held new : Rows) (plan traffic all : List Change) → all ≡ plan ++ traffic → Lead held (with_plan held new) plan
    → Lead (with_plan held new) new traffic → Lead held new all
both_lead held new plan traffic all is first second s has_tables o n whole =
    let parts = subst AreWhole is whole in
    let between : Orders (with_plan held new) =
    record { groups = n.groups; stations = n.stations; agents = n.agents; calls = o.calls; connections = o.connections; monitors = o.monitors } in
    let there = first s has_tables o between (whole_front plan traffic parts) in
    subst (λ l. HasTables (changed_by s l) new) (sym is)
    (subst (λ r. HasTables r new) (sym (changed_by_append s plan traffic)) (second (changed_by s plan) there between n (whole_back plan traffic parts)))

-- ---- agents of the same numbers

after_same : (x y : AgentRecord) (xs ys : List AgentRecord) → x.agent ≡ y.agent → map (λ (a : AgentRecord). a.agent) xs ≡ map (λ (a : AgentRecord). a.agent) ys
    → AllAfter agent_order y ys → AllAfter agent_order x xs
after_same x y [] ys first rest h = tt
after_same x y (a ∷ xs) [] first rest h = absurd (let k = rest in cc)
after_same x y (a ∷ xs) (b ∷ ys) first rest h =
    let here : a.agent ≡ b.agent = let k = rest in cc in
    let later : map (λ (z : AgentRecord). z.agent) xs ≡ map (λ (z : AgentRecord). z.agent) ys = let k = rest in cc in
    (ap₂ nat_cmp first here ∙ h.0, after_same x y xs ys first later h.1)

pub ascending_same : (xs ys : List AgentRecord) → map (λ (a : AgentRecord). a.agent) xs ≡ map (λ (a : AgentRecord). a.agent) ys → IsAscending agent_order ys
    → IsAscending agent_order xs
ascending_same [] ys same up = tt
ascending_same (a ∷ xs) [] same up = absurd (let k = same in cc)
ascending_same (a ∷ xs) (b ∷ ys) same up =
    let here : a.agent ≡ b.agent = let k = same in cc in
    let later : map (λ (z : AgentRecord). z.agent) xs ≡ map (λ (z : AgentRecord). z.agent) ys = let k = same in cc in
    (after_same a b xs ys here later up.0, ascending_same xs ys later up.1)

-- the agents that give their stations up are those that are held
pub unseated_numbers : (new xs : List AgentRecord) → map (λ (a : AgentRecord). a.agent) (map (unseated new) xs) ≡ map (λ (a : AgentRecord). a.agent) xs
unfolding unseated
unseated_numbers new [] = refl
unseated_numbers new (a ∷ xs) = ap (λ l. a.agent ∷ l) (unseated_numbers new xs)

-- ---- the changes themselves

four_added : (c0 c1 c2 c3 c4 d1 d2 d3 d4 : List Change) → c0 ≡ [] → c1 ≡ c0 ++ d1 → c2 ≡ c1 ++ d2 → c3 ≡ c2 ++ d3 → c4 ≡ c3 ++ d4
    → c4 ≡ d1 ++ (d2 ++ (d3 ++ d4))
four_added c0 c1 c2 c3 c4 d1 d2 d3 d4 e0 e1 e2 e3 e4 =
    e4 ∙ ap (λ l. l ++ d4) (e3 ∙ ap (λ l. l ++ d3) (e2 ∙ ap (λ l. l ++ d2) (e1 ∙ ap (λ l. l ++ d1) e0)))
    ∙ append_assoc (d1 ++ d2) d3 d4 ∙ append_assoc d1 d2 (d3 ++ d4)

pub plan_exact : (held new : Rows) (agents : List AgentRecord) (c0 c1 c2 c3 c4 : List Change) → agents ≡ map (unseated new.agents) held.agents → c0 ≡ []
    → AddsSteps group_order group_eq none_gone PutGroup held.groups new.groups c0 c1
    → AddsSteps station_order station_eq none_gone PutStation held.stations new.stations c1 c2
    → AddsSteps agent_order agent_eq none_gone PutAgent held.agents agents c2 c3 → AddsSteps agent_order agent_eq none_gone PutAgent agents new.agents c3 c4
    → c4 ≡ plan_differences held new
unfolding plan_differences
plan_exact held new agents c0 c1 c2 c3 c4 are none a1 a2 a3 a4 =
    let agent_steps : List AgentRecord → List AgentRecord → List Change = differences agent_order agent_eq none_gone PutAgent in
    four_added c0 c1 c2 c3 c4 _ _ _ _ none a1.0 a2.0 (a3.0 ∙ ap (λ l. c2 ++ agent_steps held.agents l) are)
    (a4.0 ∙ ap (λ l. c3 ++ agent_steps l new.agents) are)

pub traffic_exact : (held new : Rows) (connections : List ConnectionRecord) (c0 c1 c2 c3 c4 : List Change)
    → connections ≡ filter (stays new.connections) held.connections → c0 ≡ []
    → AddsSteps connection_order connection_eq connection_gone PutConnection held.connections connections c0 c1
    → AddsSteps call_order call_eq call_gone PutCall held.calls new.calls c1 c2
    → AddsSteps connection_order connection_eq connection_gone PutConnection connections new.connections c2 c3
    → AddsSteps monitor_order monitor_eq monitor_gone PutMonitor held.monitors new.monitors c3 c4
    → c4 ≡ traffic_differences held new
unfolding traffic_differences
traffic_exact held new connections c0 c1 c2 c3 c4 are none a1 a2 a3 a4 =
    let steps : List ConnectionRecord → List ConnectionRecord → List Change = differences connection_order connection_eq connection_gone PutConnection in
    four_added c0 c1 c2 c3 c4 _ _ _ _ none (a1.0 ∙ ap (λ l. c0 ++ steps held.connections l) are) a2.0 (a3.0 ∙ ap (λ l. c2 ++ steps l new.connections) are) a4.0

pub both_exact : (held new : Rows) (plan traffic all : List Change) → all ≡ plan ++ traffic → plan ≡ plan_differences held new
    → traffic ≡ traffic_differences held new → all ≡ rows_differences held new
unfolding rows_differences
both_exact held new plan traffic all is first second = is ∙ ap₂ (λ a b. a ++ b) first second
