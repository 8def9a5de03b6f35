-- The changes from the tables of one state to those of another.
use Rattle.std.specs.Prelude.{◌≡◌, ◌↔◌, ◌++◌, Bool, List, Vec}
use Rattle.std.specs.Borrow.{MutBor}
use Rattle.std.specs.declared.alloc.Global.{Global}
use Rattle.std.specs.declared.cmp.Ordering.{Ordering}
use Rattle.acd_terms.specs.Lists.{Every}
use Rattle.acd_terms.specs.declared.rows.Rows.{Rows}
use Rattle.acd_model.specs.Rules.Plan.{group_order, station_order, agent_order}
use Rattle.acd_model.specs.Changes.{changed_by}
use Rattle.acd_model.specs.declared.moves.Change.{Change}
use Rattle.acd_model.specs.declared.moves.Change.TheVariants.{Nothing}
use Rattle.acd_lemmas.specs.Orders.{Orders}
use Rattle.acd_sql_differences.specs.DifferenceSteps.{IsNoKey, LeadTo, differences, Comparing}
use denote.Triple.Both.{Both}

-- the lists of one are those of the other; the limits and the counters are not asked for
pub record HasTables (s t : Rows) : Type 0 where
  pub groups : s.groups ≡ t.groups
  pub stations : s.stations ≡ t.stations
  pub agents : s.agents ≡ t.agents
  pub calls : s.calls ≡ t.calls
  pub connections : s.connections ≡ t.connections
  pub monitors : s.monitors ≡ t.monitors

-- none of the changes represents a group, a station or an agent that is missing
abbrev pub AreWhole : List Change → Type 0
AreWhole = Every (λ (c : Change). c ≡ Nothing → ⊥)

-- each group, station and agent of one has one of its key in the other
pub record KeepsPlan (held new : Rows) : Type 0 where
  pub groups : Every (λ x. IsNoKey group_order x new.groups → ⊥) held.groups
  pub stations : Every (λ x. IsNoKey station_order x new.stations → ⊥) held.stations
  pub agents : Every (λ x. IsNoKey agent_order x new.agents → ⊥) held.agents

-- the changes, made one after the other over the tables of one state, lead to those of another, where both are in order
abbrev pub Lead : Rows → Rows → List Change → Type 0
Lead held new changes = (s : Rows) → HasTables s held → Orders held → Orders new → AreWhole changes → HasTables (changed_by s changes) new

-- the groups, the stations and the agents of one with the rest of another
abbrev pub with_plan : Rows → Rows → Rows
with_plan held new = record held { groups = new.groups; stations = new.stations; agents = new.agents }

-- where both are in order, the changes are whole just where no group, station and agent is missing
abbrev pub AreWholeIfKept : Rows → Rows → List Change → Type 0
AreWholeIfKept held new changes = Orders held → Orders new → (AreWhole changes ↔ KeepsPlan held new)

-- the differences of two lists are added
abbrev pub AddsSteps : {T : Type 0} → (T → T → Ordering) → (T → T → Bool) → (T → Change) → (T → Change) → List T → List T → List Change → List Change → Type 0
AddsSteps cmp same off on held new old now = (now ≡ old ++ differences cmp same off on held new) × LeadTo cmp same off on held new (differences cmp same off on held new)

-- the same of a table's
abbrev pub AddsDifferences : {T : Type 0} → Comparing T → List T → List T → Both (MutBor (Vec Change Global)) (MutBor (Vec Change Global)) → Type 0
AddsDifferences c held new added =
    AddsSteps c.order c.same c.changes.gone c.changes.put held new added.entry.now.items added.exit.now.items
