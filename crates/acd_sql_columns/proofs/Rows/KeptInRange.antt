-- The values of a content are in their ranges where each record is good, and so is each record where they are.
use Rattle.std.proofs.Common.{◌≡◌, ◌==◌, ◌++◌, Bool, true, false, cond, List, [], ◌∷◌, map, refl}
use Rattle.std.proofs.lemmas.Bool.{and_from, and_parts}
use Rattle.sqlite_value.specs.Order.{Row}
use Rattle.acd_terms.specs.Groups.{are_groups}
use Rattle.acd_terms.specs.Lists.{Every}
use Rattle.acd_terms.specs.declared.record.AgentRecord.{AgentRecord}
use Rattle.acd_terms.specs.declared.record.GroupRecord.{GroupRecord}
use Rattle.acd_terms.specs.declared.rows.Limits.{Limits}
use Rattle.acd_book.specs.Content.{Content, empty_content}
use Rattle.acd_lemmas.proofs.Lists.{every-append}
use Rattle.acd_sql_columns.specs.declared.tables.Table.{Table}
use Rattle.acd_sql_columns.specs.declared.tables.Table.TheVariants as table
use Rattle.acd_sql_columns.specs.AnyRows.{is_good, are_good}
use Rattle.acd_sql_columns.specs.InRange.{is_good_table, values_of, IsInRange, IsGoodMeta, IsGoodGroup, IsGoodStation, IsGoodAgent, IsGoodCall, IsGoodConnection, IsGoodMonitor, IsGoodEvent, IsGoodKept}
use Rattle.acd_sql_columns.specs.Relations.{meta_of, group_part, agent_part, priority_part, further_of, further_in, priorities_in}
use Rattle.acd_sql_columns.specs.Rows.{meta_shown, group_values, station_values, agent_values, call_values, connection_values, monitor_values, event_values, kept_values, further_values, priority_values}

-- each record of a content is good
pub record AllGood (c : Content) : Type 0 where
  pub meta : IsGoodMeta (meta_of c.rows)
  pub groups : Every IsGoodGroup c.rows.groups
  pub stations : Every IsGoodStation c.rows.stations
  pub agents : Every IsGoodAgent c.rows.agents
  pub calls : Every IsGoodCall c.rows.calls
  pub connections : Every IsGoodConnection c.rows.connections
  pub monitors : Every IsGoodMonitor c.rows.monitors
  pub events : Every IsGoodEvent c.events
  pub kept : Every IsGoodKept c.kept

-- ---- rows of records

module _ (t : Table) {X : Type 0} (row : X → Row) where
  each_good : (xs : List X) → are_good t (map row xs) ≡ true → Every (λ x. is_good t (row x) ≡ true) xs
  unfolding are_good
  each_good [] h = tt
  each_good (x ∷ xs) h = let both = and_parts (is_good t (row x)) (are_good t (map row xs)) h in (both.0, each_good xs both.1)

  all_good : (xs : List X) → Every (λ x. is_good t (row x) ≡ true) xs → are_good t (map row xs) ≡ true
  unfolding are_good
  all_good [] h = refl
  all_good (x ∷ xs) h = and_from (is_good t (row x)) (are_good t (map row xs)) h.0 (all_good xs h.1)

every_split : {X : Type 0} (P : X → Type 0) (xs ys : List X) → Every P (xs ++ ys) → Every P xs × Every P ys
every_split P [] ys h = (tt, h)
every_split P (x ∷ xs) ys h = let rest = every_split P xs ys h.1 in ((h.0, rest.0), rest.1)

every_both : {X : Type 0} (P Q R : X → Type 0) → ((x : X) → P x → Q x → R x) → (xs : List X) → Every P xs → Every Q xs → Every R xs
every_both P Q R so [] p q = tt
every_both P Q R so (x ∷ xs) p q = (so x p.0 q.0, every_both P Q R so xs p.1 q.1)

every_so : {X : Type 0} (P Q : X → Type 0) → ((x : X) → P x → Q x) → (xs : List X) → Every P xs → Every Q xs
every_so P Q so [] p = tt
every_so P Q so (x ∷ xs) p = (so x p.0, every_so P Q so xs p.1)

-- ---- priorities

abbrev ranks_good : List GroupRecord → Bool
ranks_good groups = are_good table.GroupPriority (map priority_values (priorities_in groups))

ranks_split : (groups : List GroupRecord) → ranks_good groups ≡ true → Every (λ (g : GroupRecord). ranks_good (g ∷ []) ≡ true) groups
unfolding are_good
ranks_split [] h = tt
ranks_split (g ∷ groups) h =
    (elim (g.priority == 0) as (λ b. are_good table.GroupPriority (map priority_values (cond b (priorities_in groups) (priority_part g ∷ priorities_in groups)))
    ≡ true
    → (are_good table.GroupPriority (map priority_values (cond b [] (priority_part g ∷ []))) ≡ true)
    × Every (λ (x : GroupRecord). ranks_good (x ∷ []) ≡ true) groups) [
      | true ↦ λ k. (refl, ranks_split groups k)
      | false ↦ λ k.
          let both = and_parts (is_good table.GroupPriority (priority_values (priority_part g))) (ranks_good groups) k in
          (and_from (is_good table.GroupPriority (priority_values (priority_part g))) true both.0 refl, ranks_split groups both.1)
    ]) h

ranks_join : (groups : List GroupRecord) → Every (λ (g : GroupRecord). ranks_good (g ∷ []) ≡ true) groups → ranks_good groups ≡ true
unfolding are_good
ranks_join [] h = refl
ranks_join (g ∷ groups) h =
    (elim (g.priority == 0) as (λ b. are_good table.GroupPriority (map priority_values (cond b [] (priority_part g ∷ []))) ≡ true
    → are_good table.GroupPriority (map priority_values (cond b (priorities_in groups) (priority_part g ∷ priorities_in groups))) ≡ true) [
      | true ↦ λ k. ranks_join groups h.1
      | false ↦ λ k.
          and_from (is_good table.GroupPriority (priority_values (priority_part g))) (ranks_good groups)
          (and_parts (is_good table.GroupPriority (priority_values (priority_part g))) true k).0 (ranks_join groups h.1)
    ]) h.0

-- ---- further groups

abbrev IsGoodPair : Row → Type 0
IsGoodPair r = is_good table.AgentGroups r ≡ true

further_split : (agents : List AgentRecord) → are_good table.AgentGroups (map further_values (further_in agents)) ≡ true
    → Every (λ (a : AgentRecord). are_good table.AgentGroups (map further_values (further_of a)) ≡ true) agents
further_split [] h = tt
further_split (a ∷ agents) h =
    let parts =
    every_split (λ p. IsGoodPair (further_values p)) (further_of a) (further_in agents)
    (each_good table.AgentGroups further_values (further_of a ++ further_in agents) h) in (
      all_good table.AgentGroups further_values (further_of a) parts.0,
      further_split agents (all_good table.AgentGroups further_values (further_in agents) parts.1),
    )

further_join : (agents : List AgentRecord) → Every (λ (a : AgentRecord). are_good table.AgentGroups (map further_values (further_of a)) ≡ true) agents
    → are_good table.AgentGroups (map further_values (further_in agents)) ≡ true
further_join [] h = all_good table.AgentGroups further_values [] tt
further_join (a ∷ agents) h =
    all_good table.AgentGroups further_values (further_of a ++ further_in agents)
    (every-append (λ p. IsGoodPair (further_values p)) (further_of a) (further_in agents) (each_good table.AgentGroups further_values (further_of a) h.0)
    (each_good table.AgentGroups further_values (further_in agents) (further_join agents h.1)))

-- ---- a content

-- the parts of a good group and of a good agent
abbrev HasGoodPart : GroupRecord → Type 0
HasGoodPart g = is_good table.Groups (group_values (group_part g)) ≡ true

abbrev HasGoodRank : GroupRecord → Type 0
HasGoodRank g = ranks_good (g ∷ []) ≡ true

abbrev IsGoodPart : AgentRecord → Type 0
IsGoodPart a = is_good table.Agents (agent_values (agent_part a)) ≡ true

abbrev HasGoodPairs : AgentRecord → Type 0
HasGoodPairs a = are_good table.AgentGroups (map further_values (further_of a)) ≡ true

abbrev HasGroups : AgentRecord → Type 0
HasGroups a = are_groups a.groups ≡ true

group_of_parts : (g : GroupRecord) → HasGoodPart g → HasGoodRank g → IsGoodGroup g
group_of_parts g p q = (p, q)

agent_of_parts : (a : AgentRecord) → IsGoodPart a → HasGoodPairs a × HasGroups a → IsGoodAgent a
agent_of_parts a p q = (p, q.0, q.1)

pairs_and_groups : (a : AgentRecord) → HasGoodPairs a → HasGroups a → HasGoodPairs a × HasGroups a
pairs_and_groups a p q = (p, q)

module _ (c : Content) (h : IsInRange c) where
  table_good : (t : Table) → are_good t (values_of t c) ≡ true
  unfolding is_good_table
  table_good t = h.tables t

  meta_good : are_good table.Meta (meta_shown (meta_of c.rows) ∷ []) ≡ true → IsGoodMeta (meta_of c.rows)
  unfolding are_good
  meta_good all = (and_parts (is_good table.Meta (meta_shown (meta_of c.rows))) true all).0

  pub goods : AllGood c
  goods = record {
    meta = meta_good (table_good table.Meta);
    groups =
        every_both HasGoodPart HasGoodRank IsGoodGroup group_of_parts c.rows.groups
        (each_good table.Groups (λ (g : GroupRecord). group_values (group_part g)) c.rows.groups (table_good table.Groups))
        (ranks_split c.rows.groups (table_good table.GroupPriority));
    stations = each_good table.Stations station_values c.rows.stations (table_good table.Stations);
    agents =
        every_both IsGoodPart (λ a. HasGoodPairs a × HasGroups a) IsGoodAgent agent_of_parts c.rows.agents
        (each_good table.Agents (λ (a : AgentRecord). agent_values (agent_part a)) c.rows.agents (table_good table.Agents))
        (every_both HasGoodPairs HasGroups (λ a. HasGoodPairs a × HasGroups a) pairs_and_groups c.rows.agents
        (further_split c.rows.agents (table_good table.AgentGroups)) h.groups);
    calls = each_good table.Calls call_values c.rows.calls (table_good table.Calls);
    connections = each_good table.Connections connection_values c.rows.connections (table_good table.Connections);
    monitors = each_good table.Monitors monitor_values c.rows.monitors (table_good table.Monitors);
    events = each_good table.Events event_values c.events (table_good table.Events);
    kept = each_good table.Kept kept_values c.kept (table_good table.Kept);
  }

module _ (c : Content) (h : AllGood c) where
  tables_good : (t : Table) → is_good_table t c ≡ true
  unfolding is_good_table are_good
  tables_good table.Meta = and_from (is_good table.Meta (meta_shown (meta_of c.rows))) true h.meta refl
  tables_good table.Groups =
      all_good table.Groups (λ (g : GroupRecord). group_values (group_part g)) c.rows.groups
      (every_so IsGoodGroup HasGoodPart (λ g p. p.0) c.rows.groups h.groups)
  tables_good table.Stations = all_good table.Stations station_values c.rows.stations h.stations
  tables_good table.Agents =
      all_good table.Agents (λ (a : AgentRecord). agent_values (agent_part a)) c.rows.agents
      (every_so IsGoodAgent IsGoodPart (λ a p. p.0) c.rows.agents h.agents)
  tables_good table.Calls = all_good table.Calls call_values c.rows.calls h.calls
  tables_good table.Connections = all_good table.Connections connection_values c.rows.connections h.connections
  tables_good table.Monitors = all_good table.Monitors monitor_values c.rows.monitors h.monitors
  tables_good table.Events = all_good table.Events event_values c.events h.events
  tables_good table.Kept = all_good table.Kept kept_values c.kept h.kept
  tables_good table.AgentGroups = further_join c.rows.agents (every_so IsGoodAgent HasGoodPairs (λ a p. p.1) c.rows.agents h.agents)
  tables_good table.GroupPriority = ranks_join c.rows.groups (every_so IsGoodGroup HasGoodRank (λ g p. p.1) c.rows.groups h.groups)

  pub in_range : IsInRange c
  in_range = record { tables = tables_good; groups = every_so IsGoodAgent HasGroups (λ a p. p.2) c.rows.agents h.agents }

-- a new book's content is in range
pub empty_in_range : (limits : Limits) → IsGoodMeta (meta_of (empty_content limits).rows) → IsInRange (empty_content limits)
empty_in_range limits meta =
    in_range (empty_content limits) (record {
      meta = meta;
      groups = tt;
      stations = tt;
      agents = tt;
      calls = tt;
      connections = tt;
      monitors = tt;
      events = tt;
      kept = tt;
    })
