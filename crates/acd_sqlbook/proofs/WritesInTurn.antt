-- Lists of changes and events, written one after the other.
use Rattle.std.proofs.Common.{◌≡◌, ℕ, true, ◌+◌, ◌<◌, List, [], ◌∷◌, ◌++◌, length, take, get_or, Result, Ok, Err, OnOk, refl, sym, ap, ap₂, subst, ◌∙◌}
use Rattle.std.specs.Ordering.{nat_cmp}
use Rattle.std.proofs.lemmas.Cmp.{nat_cmp_total}
use Rattle.std.proofs.lemmas.List.{take_more}
use Rattle.sqlite.specs.declared.error.Error.{Error}
use Rattle.sqlite.specs.State.{State}
use Rattle.acd_terms.specs.Groups.{further_groups}
use Rattle.acd_terms.specs.Lists.{IsAscending, ascends, put_by, remove_by}
use Rattle.acd_terms.specs.declared.record.GroupRecord.{GroupRecord}
use Rattle.acd_terms.specs.declared.record.StationRecord.{StationRecord}
use Rattle.acd_terms.specs.declared.record.AgentRecord.{AgentRecord}
use Rattle.acd_terms.specs.declared.record.CallRecord.{CallRecord}
use Rattle.acd_terms.specs.declared.record.ConnectionRecord.{ConnectionRecord}
use Rattle.acd_terms.specs.declared.record.MonitorRecord.{MonitorRecord}
use Rattle.acd_terms.specs.declared.event.Event.{Event}
use Rattle.acd_model.specs.Scans.{at_connection}
use Rattle.acd_model.specs.Writes.{with_group, with_station, with_agent, with_call, with_connection, with_monitor, without_call, without_connection, without_monitor}
use Rattle.acd_model.specs.declared.moves.Change.{Change}
use Rattle.acd_model.specs.declared.moves.Change.TheVariants.{PutGroup, PutStation, PutAgent, PutCall, PutConnection, PutMonitor, RemoveCall, RemoveConnection, RemoveMonitor}
use Rattle.acd_book.specs.Content.{Content}
use Rattle.acd_sql_columns.specs.declared.tables.Table.TheVariants as table
use Rattle.acd_sql_columns.specs.Relations.{Relations, relations_of, with_group_parts, with_agent_parts}
use Rattle.acd_sql_columns.specs.Content.{with_part}
use Rattle.acd_sql_columns.specs.Tables.{stations, calls, monitors}
use Rattle.acd_sql_statements.specs.SeveralEvents.{with_all_events}
use Rattle.acd_sql_statements.specs.StatementEffects.{with_put, without}
use Rattle.acd_sql_columns.specs.Transactions.{HoldsUncommitted}
use Rattle.acd_sql_columns.proofs.Rows.RowsOfRecords.{groups_rise, agents_rise}
use Rattle.acd_sql_columns.proofs.Rows.JoinedRecords.{further_put, agents_put, priority_put, groups_put}
use Rattle.acd_lemmas.proofs.RuleTests.{ascending_from}
use Rattle.acd_sqlbook.specs.WriteChoice.{IsNextPart}
use Rattle.acd_sql_columns.proofs.Writes.Common.{ChangesEach}
use Rattle.acd_sqlbook.specs.Commit.{applied, content_with_event, with_events, MakesTablesOfEach}

-- a fold that takes the first of the list first takes the last one last
module _ {X C : Type 0} (all : C → List X → C) (one : C → X → C) (none : (c : C) → all c [] ≡ c)
    (more : (c : C) (x : X) (xs : List X) → all c (x ∷ xs) ≡ all (one c x) xs) where
  push : (c : C) (xs : List X) (x : X) → all c (xs ++ x ∷ []) ≡ one (all c xs) x
  push c [] x = more c x [] ∙ none (one c x) ∙ ap (λ k. one k x) (sym (none c))
  push c (y ∷ xs) x = more c y (xs ++ x ∷ []) ∙ push (one c y) xs x ∙ ap (λ k. one k x) (sym (more c y xs))

  pub next : (c : C) (i : ℕ) (xs : List X) (x d : X) → x ≡ get_or xs i d → i < length xs → all c (take (i + 1) xs) ≡ one (all c (take i xs)) x
  next c i xs x d e h = ap (all c) (take_more xs i d h) ∙ push c (take i xs) (get_or xs i d) ∙ ap (one (all c (take i xs))) (sym e)

-- those of the next statement first, then the rest
several_applied : (c : Content) (some rest : List Event) → with_events (with_events c some) rest ≡ with_events c (some ++ rest)
several_applied c [] rest = refl
several_applied c (e ∷ es) rest = several_applied (content_with_event c e) es rest

pub part_applied : (c all : Content) (es some rest : List Event) → IsNextPart es some rest → with_events c es ≡ all
    → with_events (with_events c some) rest ≡ all
part_applied c all es some rest is goes = several_applied c some rest ∙ ap (with_events c) (sym is.all) ∙ goes

-- the events that one statement puts
pub all_applied_at_once : (c : Content) (es : List Event) → with_all_events es (relations_of c) ≡ relations_of (with_events c es)
all_applied_at_once c [] = refl
all_applied_at_once c (e ∷ es) = all_applied_at_once (content_with_event c e) es

-- ---- one change, as its statement makes it

-- the relations that a statement makes of those of a content that the transaction saw
pub leaving : (old new : State) (r : Result (Unit {0}) Error) (made : Relations → Relations) (after : Content → Content)
    → ((c : Content) → HoldsUncommitted old (relations_of c) → made (relations_of c) ≡ relations_of (after c))
    → OnOk r (ChangesEach made old new) → OnOk r (MakesTablesOfEach after old new)
leaving old new (Err e) made after same put = tt
leaving old new (Ok x) made after same put =
    λ (c : Content) (d : HoldsUncommitted old (relations_of c)). subst (HoldsUncommitted new) (same c d) (put (relations_of c) d)

-- the same of a change that is known by another name
pub named : (old new : State) (r : Result (Unit {0}) Error) (change v : Change) → change ≡ v
    → OnOk r (MakesTablesOfEach (λ c. applied c v) old new) → OnOk r (MakesTablesOfEach (λ c. applied c change) old new)
named old new r change v is = subst (λ w. OnOk r (MakesTablesOfEach (λ c. applied c w) old new)) (sym is)

pub applying : (old new : State) (r : Result (Unit {0}) Error) (change v : Change) (made : Relations → Relations) → change ≡ v
    → ((c : Content) → made (relations_of c) ≡ relations_of (applied c v))
    → OnOk r (ChangesEach made old new) → OnOk r (MakesTablesOfEach (λ c. applied c change) old new)
applying old new r change v made is same put = named old new r change v is (leaving old new r made (λ c. applied c v) (λ c seen. same c) put)

-- a group and an agent that are put change their two tables, which are in ascending number
pub group_applied : (g : GroupRecord) (old : State) (c : Content) → HoldsUncommitted old (relations_of c)
    → with_group_parts g (relations_of c) ≡ relations_of (applied c (PutGroup g))
unfolding with_group
group_applied g old c seen =
    let up = groups_rise c.rows.groups (seen.tables table.Groups).ascending in
    ap₂ (λ parts ranks. record (relations_of c) { groups = parts; priorities = ranks }) (groups_put g c.rows.groups) (priority_put g c.rows.groups up)

pub station_applied : (s : StationRecord) (c : Content) → with_put stations s (relations_of c) ≡ relations_of (applied c (PutStation s))
unfolding with_station
station_applied s c = refl

-- all but the first of those that ascend
further_ascend : (gs : List ℕ) → ascends nat_cmp gs ≡ true → IsAscending nat_cmp (further_groups gs)
further_ascend [] h = tt
further_ascend (g ∷ gs) h = (ascending_from nat_cmp nat_cmp_total (g ∷ gs) h).1

pub agent_applied : (a : AgentRecord) → ascends nat_cmp a.groups ≡ true → (old : State) (c : Content) → HoldsUncommitted old (relations_of c)
    → with_agent_parts a (relations_of c) ≡ relations_of (applied c (PutAgent a))
unfolding with_agent
agent_applied a in_order old c seen =
    let up = agents_rise c.rows.agents (seen.tables table.Agents).ascending in
    ap₂ (λ parts pairs. record (relations_of c) { agents = parts; further = pairs }) (agents_put a c.rows.agents)
    (further_put a c.rows.agents (further_ascend a.groups in_order) up)

pub call_applied : (k : CallRecord) (c : Content) → with_put calls k (relations_of c) ≡ relations_of (applied c (PutCall k))
unfolding with_call
call_applied k c = refl

pub connection_applied : (x : ConnectionRecord) (c : Content)
    → with_part table.Connections (put_by (at_connection x.call x.device) c.rows.connections x) (relations_of c) ≡ relations_of (applied c (PutConnection x))
unfolding with_connection
connection_applied x c = refl

pub monitor_applied : (w : MonitorRecord) (c : Content) → with_put monitors w (relations_of c) ≡ relations_of (applied c (PutMonitor w))
unfolding with_monitor
monitor_applied w c = refl

pub call_gone : (n : ℕ) (c : Content) → without calls n (relations_of c) ≡ relations_of (applied c (RemoveCall n))
unfolding without_call
call_gone n c = refl

pub monitor_gone : (n : ℕ) (c : Content) → without monitors n (relations_of c) ≡ relations_of (applied c (RemoveMonitor n))
unfolding without_monitor
monitor_gone n c = refl

pub connection_gone : (n d : ℕ) (c : Content)
    → with_part table.Connections (remove_by (at_connection n d) c.rows.connections) (relations_of c) ≡ relations_of (applied c (RemoveConnection n d))
unfolding without_connection
connection_gone n d c = refl
