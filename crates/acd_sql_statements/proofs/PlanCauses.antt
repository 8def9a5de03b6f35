-- Why the groups and the agents aren't joined.
use Rattle.std.proofs.Common.{◌≡◌, ◌⊎◌, inl, inr, ℕ, List, [], ◌∷◌, map, true, Result, Ok, Err, IfErr, sym, ap₂, subst, ◌∙◌}
use Rattle.std.specs.Prelude.{Vec}
use Rattle.std.specs.declared.alloc.Global.{Global}
use Rattle.sqlite_rules.specs.Lists.{Has}
use Rattle.sqlite_rules.proofs.ProbeLemmas.{mapped_has}
use Rattle.sqlite_keyed.proofs.ListLemmas.{map-map}
use Rattle.sqlite.specs.declared.error.Error.{Error}
use Rattle.sqlite.specs.State.{State}
use Rattle.acd_terms.specs.Groups.{are_groups}
use Rattle.acd_terms.specs.Lists.{Every}
use Rattle.acd_terms.specs.declared.record.AgentRecord.{AgentRecord}
use Rattle.acd_book.specs.Content.{Content}
use Rattle.acd_sql_columns.specs.declared.relations.AgentRow.{AgentRow}
use Rattle.acd_sql_columns.specs.declared.tables.Table.TheVariants as table
use Rattle.acd_sql_columns.specs.ReadResults.{Finds}
use Rattle.acd_sql_columns.specs.Relations.{group_part, agent_part, further_in, joined_agent}
use Rattle.acd_sql_columns.specs.Rows.{group_values, agent_values}
use Rattle.acd_sql_columns.specs.Tables.{groups, agents}
use Rattle.acd_sql_columns.proofs.Rows.RowsOfRecords.{agents_rise}
use Rattle.acd_sql_columns.proofs.Rows.JoinedRecords.{agents_joined}
use Rattle.acd_sql_columns.proofs.OneTable.Listings.{stored}
use Rattle.acd_sql_statements.specs.StoreFailures.{IsMemory}
use Rattle.acd_sql_columns.specs.InRange.{IsInRange}
use Rattle.acd_sql_statements.specs.ReadFailures.{HasStray, HasTableValues, FailsToRead, HasReadCause, HasReadCauseIf}

pub groups_have_values : HasTableValues groups
groups_have_values c = sym (map-map group_values group_part c.rows.groups)

pub agents_have_values : HasTableValues agents
agents_have_values c = sym (map-map agent_values agent_part c.rows.agents)

every_has : {X : Type 0} (P : X → Type 0) (xs : List X) (x : X) → Every P xs → Has xs x → P x
every_has P [] x all h = absurd h
every_has P (y ∷ xs) x all (inl is) = subst P (sym is) all.0
every_has P (y ∷ xs) x all (inr h) = every_has P xs x all.1 h

stray : (c : Content) (further : List (ℕ × ℕ)) (parts : List AgentRow) → map (joined_agent further) parts ≡ c.rows.agents → HasStray further parts
    → ¬ (IsInRange c)
stray c further parts joined h range =
    let among = subst (λ l. Has l (joined_agent further h.0)) joined (mapped_has (joined_agent further) parts h.0 h.1) in
    absurd (let apart = sym h.2 ∙ every_has (λ (a : AgentRecord). are_groups a.groups ≡ true) c.rows.agents (joined_agent further h.0) range.groups among in cc)

pub cause_grouped : (old new : State) (found : Vec (ℕ × ℕ) Global) (parts : List AgentRow) (pairs : List (ℕ × ℕ)) (r : Result (Vec AgentRecord Global) Error)
    → pairs ≡ found.items → HasReadCause old new (Ok found)
    → Finds {E = Error} old new (Ok found) (λ c found. found.items ≡ further_in c.rows.agents) → IfErr r (λ e. IsMemory e ⊎ HasStray pairs parts)
    → HasReadCauseIf (λ c. parts ≡ map agent_part c.rows.agents) old new r
cause_grouped old new found parts pairs (Ok joined) same h is fails = record { spares = h.spares; cause = λ k c held of_content. tt }
cause_grouped old new found parts pairs (Err e) same h is fails = record {
  spares = h.spares;
  cause =
      λ k c held of_content. each c fails (ap₂ (λ qs xs. map (joined_agent qs) xs) (same ∙ is.answer k c held) of_content
      ∙ agents_joined c.rows.agents (agents_rise c.rows.agents (stored table.Agents old c held).ascending));
}
  where
    each : (c : Content) → IsMemory e ⊎ HasStray pairs parts → map (joined_agent pairs) parts ≡ c.rows.agents → FailsToRead c old new e
    each c (inl memory) joined = inl memory
    each c (inr h) joined = inr (inr (inr (stray c pairs parts joined h)))
