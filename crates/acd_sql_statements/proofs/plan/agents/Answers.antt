use Rattle.std.proofs.Common.{◌≡◌, map, ◌∙◌, rules}
use Rattle.std.specs.Prelude.{Vec}
use Rattle.std.specs.declared.alloc.Global.{Global}
use Rattle.sqlite.specs.Held.{state}
use Rattle.acd_terms.specs.declared.record.AgentRecord.{AgentRecord}
use Rattle.acd_book.specs.Content.{Content}
use Rattle.acd_sql_columns.specs.declared.relations.AgentRow.{AgentRow}
use Rattle.acd_sql_columns.specs.Relations.{agent_part}
use Rattle.acd_sql_statements.proofs.ReadsInTurn.{finds_after, finds_failed}
use Rattle.acd_sql_statements.proofs.ReadTexts.{agents_answered}
use Rattle.acd_sql_statements.proofs.ReadCauses.{cause_then, cause_as}
use Rattle.acd_sql_statements.proofs.PlanCauses.{agents_have_values}
use Rattle.acd_sql_statements.proofs.plan.agents.Goals as goal

pub returns : goal.returns
returns g c = record {
  found =
      finds_after (state g.S.Store c.args.conn.now) (state g.S.Store c.records.new.conn) (state g.S.Store c.grouped.new.conn) c.in_ok-parts.parts
      c.grouped.result (λ (x : Content) (parts : Vec AgentRow Global). parts.items ≡ map agent_part x.rows.agents)
      (λ (x : Content) (found : Vec AgentRecord Global). c.deref.result.now ≡ map agent_part x.rows.agents → found.items ≡ x.rows.agents)
      (λ (x : Content) (found : Vec AgentRecord Global). found.items ≡ x.rows.agents) c.in_ok-parts.ensures.found
      (λ x found p q. q (c.deref.ensures.value ∙ p)) c.grouped.ensures.found;
  cause =
      cause_then (λ (x : Content) (parts : Vec AgentRow Global). parts.items ≡ map agent_part x.rows.agents) (state g.S.Store c.args.conn.now)
      (state g.S.Store c.records.new.conn) (state g.S.Store c.grouped.new.conn) c.in_ok-parts.parts c.grouped.result
      (c.in_ok-parts.ensures.cause agents_answered agents_have_values) c.in_ok-parts.ensures.found c.grouped.ensures.found.quiet
      (rw c.deref.ensures.value at c.grouped.ensures.cause);
}

pub returns-in_err-parts : goal.returns-in_err-parts
returns-in_err-parts g c = record {
  found = finds_failed c.in_err-parts.ensures.found (search rules);
  cause =
      cause_as (state g.S.Store c.args.conn.now) (state g.S.Store c.records.new.conn) c.in_err-parts.field-0.0 c.from_residual.result (search rules)
      (c.in_err-parts.ensures.cause agents_answered agents_have_values);
}
