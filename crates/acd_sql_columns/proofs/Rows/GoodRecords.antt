-- Records whose fields are in their ranges are good: what is written of them is read back.
use Rattle.std.proofs.Common.{◌≡◌, inl, inr, ℕ, ◌<◌, ◌≤◌, ◌^◌, ◌==◌, cond, Bool, true, false, List, [], ◌∷◌, map, length, Some, None, Ok, refl, sym, ap, arith, eq-eqb, le-leb}
use Rattle.std.specs.Prelude.{IfSome}
use Rattle.std.specs.Option.{is_some}
use Rattle.std.specs.Ordering.{nat_cmp}
use Rattle.std.specs.Str.{IsUtf8}
use Rattle.std.proofs.lemmas.Bool.{and_from}
use Rattle.std.proofs.lemmas.Bool.Decides.{nat_tests}
use Rattle.std.proofs.lemmas.Slice.Eq.{bytes_eq-Decides}
use Rattle.std.proofs.lemmas.Str.{is_utf8-from_IsUtf8}
use Rattle.acd_terms.specs.Columns.{columns_of}
use Rattle.acd_terms.specs.Forms.{IsBetween}
use Rattle.acd_terms.proofs.ReadBack.{number_again}
use Rattle.acd_terms.specs.Groups.{least_group, further_groups}
use Rattle.acd_terms.specs.Lists.{Every, ascends}
use Rattle.acd_terms.specs.declared.event.Event.{Event}
use Rattle.acd_terms.specs.declared.record.AgentRecord.{AgentRecord}
use Rattle.acd_terms.specs.declared.record.CallRecord.{CallRecord}
use Rattle.acd_terms.specs.declared.record.ConnectionRecord.{ConnectionRecord}
use Rattle.acd_terms.specs.declared.record.GroupRecord.{GroupRecord}
use Rattle.acd_terms.specs.declared.record.MonitorRecord.{MonitorRecord}
use Rattle.acd_terms.specs.declared.record.StationRecord.{StationRecord}
use Rattle.acd_codec.specs.RequestForms.{IsAgent, IsDevice, IsPriority}
use Rattle.acd_codec.specs.RequestReading.{reads_as}
use Rattle.acd_codec.specs.RequestTexts.{request_text}
use Rattle.acd_codec.specs.KeptTexts.{request_of_text}
use Rattle.acd_codec.proofs.KeptTexts.{text_again}
use Rattle.acd_book.specs.declared.kept.Kept.{Kept}
use Rattle.acd_sql_columns.specs.declared.meta.Meta.{Meta}
use Rattle.acd_sql_columns.specs.declared.tables.Table.TheVariants as table
use Rattle.acd_sql_columns.specs.AnyRows.{is_good, are_good}
use Rattle.acd_sql_columns.specs.InRange.{IsGoodMeta, IsGoodGroup, IsGoodStation, IsGoodAgent, IsGoodCall, IsGoodConnection, IsGoodMonitor, IsGoodEvent, IsGoodKept, IsStamp, IsStatus}
use Rattle.acd_sql_columns.specs.Ranges.{event_in, kept_in, request_at}
use Rattle.acd_sql_columns.specs.Relations.{group_part, agent_part, priority_part, priorities_in}
use Rattle.acd_sql_columns.specs.Reports.{is_formed, report_in}
use Rattle.acd_sql_columns.specs.Rows.{meta_fields, meta_made, group_fields, group_made, station_fields, station_made, agent_fields, agent_made, call_fields, call_made, connection_fields, connection_made, monitor_fields, monitor_made, event_fields, event_made, further_fields, further_made, further_values, priority_fields, priority_made, priority_values, values_of_event, kept_values}
use Rattle.acd_sql_columns.specs.Values.{stamp_at, moment_at, status_at, body_at}
use Rattle.acd_sql_columns.proofs.Rows.ReadBack.{AllIn, read_again}

-- ---- the records

pub meta_good : (m : Meta) → AllIn meta_fields m → IsGoodMeta m
meta_good m all = ap is_some (read_again meta_fields meta_made m refl all)

pub station_good : (s : StationRecord) → AllIn station_fields s → IsGoodStation s
station_good s all = ap is_some (read_again station_fields station_made s refl all)

pub call_good : (k : CallRecord) → AllIn call_fields k → IsGoodCall k
call_good k all = ap is_some (read_again call_fields call_made k refl all)

pub connection_good : (x : ConnectionRecord) → AllIn connection_fields x → IsGoodConnection x
connection_good x all = ap is_some (read_again connection_fields connection_made x refl all)

pub monitor_good : (w : MonitorRecord) → AllIn monitor_fields w → IsGoodMonitor w
monitor_good w all = ap is_some (read_again monitor_fields monitor_made w refl all)

-- ---- a group, with its priority

not_none : (n : ℕ) → IsPriority n → (n == 0) ≡ false → IsBetween 1 9 n
not_none n h some = (grind (arith, nat_tests), h.1)

ranked : (g : GroupRecord) → IsDevice g.device → IsPriority g.priority → are_good table.GroupPriority (map priority_values (priorities_in (g ∷ []))) ≡ true
unfolding are_good
ranked g device priority = by (g.priority == 0) refl
  where
    by : (b : Bool) → (g.priority == 0) ≡ b → are_good table.GroupPriority (map priority_values (cond b [] (priority_part g ∷ []))) ≡ true
    by true none = refl
    by false some =
        and_from (is_good table.GroupPriority (priority_values (priority_part g))) true
        (ap is_some (read_again priority_fields priority_made (priority_part g) refl (device, (not_none g.priority priority some, tt)))) refl

pub group_good : (g : GroupRecord) → AllIn group_fields (group_part g) → IsPriority g.priority → IsGoodGroup g
group_good g all priority = (ap is_some (read_again group_fields group_made (group_part g) refl all), ranked g all.0 priority)

-- ---- an agent, with its further groups

pub least_in : (P : ℕ → Type 0) (gs : List ℕ) → Every P gs → IfSome (least_group gs) P
least_in P [] h = tt
least_in P (g ∷ gs) h = h.0

further_in_each : (P : ℕ → Type 0) (gs : List ℕ) → Every P gs → Every P (further_groups gs)
further_in_each P [] h = tt
further_in_each P (g ∷ gs) h = h.1

pairs_good : (agent : ℕ) (gs : List ℕ) → IsAgent agent → Every IsDevice gs
    → are_good table.AgentGroups (map further_values (map (λ (g : ℕ). (agent, g)) gs)) ≡ true
unfolding are_good
pairs_good agent [] is each = refl
pairs_good agent (g ∷ gs) is each =
    and_from (is_good table.AgentGroups (further_values (agent, g))) (are_good table.AgentGroups (map further_values (map (λ (g : ℕ). (agent, g)) gs)))
    (ap is_some (read_again further_fields further_made (agent, g) refl (is, (each.0, tt)))) (pairs_good agent gs is each.1)

pub agent_good : (a : AgentRecord) → AllIn agent_fields (agent_part a) → Every IsDevice a.groups → length a.groups ≤ 8 → ascends nat_cmp a.groups ≡ true
    → IsGoodAgent a
agent_good a all groups few ascending = (
  ap is_some (read_again agent_fields agent_made (agent_part a) refl all),
  pairs_good a.agent (further_groups a.groups) all.0 (further_in_each IsDevice a.groups groups),
  and_from _ _ (le-leb (length a.groups) 8 few) ascending,
)

-- ---- an event, and a kept record

pub event_good : (e : Event) → AllIn event_fields (values_of_event e) → is_formed (columns_of e.report) ≡ true → IsGoodEvent e
unfolding event_in report_in
event_good e all formed = rw (read_again event_fields event_made (values_of_event e) refl all, formed) refl

stamp_kept : (k : Kept) → IsStamp k.stamp → stamp_at (kept_values k) 0 ≡ Some k.stamp
unfolding stamp_at
stamp_kept k h = ap (λ b. cond b (Some k.stamp) None) (le-leb 1 k.stamp h)

moment_kept : (k : Kept) → k.moment < 2 ^ 32 → moment_at (kept_values k) 3 ≡ Some k.moment
unfolding moment_at
moment_kept k h = number_again 0 4294967295 k.moment (omega arith, omega (arith, h))

request_kept : (k : Kept) → reads_as (request_text k.request) ≡ Ok k.request → request_at (kept_values k) ≡ Some k.request
unfolding request_at
request_kept k h =
    let again : request_of_text (request_text k.request) ≡ Some k.request =
    sym (text_again (request_text k.request) k.request h ((bytes_eq-Decides (request_text k.request) (request_text k.request)).1 refl)) in
    rw (again, (bytes_eq-Decides k.request.requester k.request.requester).1 refl, eq-eqb k.request.invoke k.request.invoke refl) refl

status_kept : (k : Kept) → IsStatus k.status → status_at (kept_values k) 5 ≡ Some k.status
unfolding status_at
status_kept k (inl is) = rw is refl
status_kept k (inr is) = rw is refl

body_kept : (k : Kept) → IsUtf8 k.body → body_at (kept_values k) 6 ≡ Some k.body
unfolding body_at
body_kept k h = ap (λ b. cond b (Some k.body) None) (is_utf8-from_IsUtf8 k.body h)

pub kept_good : (k : Kept) → IsStamp k.stamp → IsStatus k.status → k.moment < 2 ^ 32 → reads_as (request_text k.request) ≡ Ok k.request → IsUtf8 k.body
    → IsGoodKept k
unfolding kept_in
kept_good k stamp status moment readable body =
    rw (stamp_kept k stamp, moment_kept k moment, request_kept k readable, status_kept k status, body_kept k body) refl
