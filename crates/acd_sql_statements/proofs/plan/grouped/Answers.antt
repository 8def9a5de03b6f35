use Rattle.sqlite.specs.Held.{state}
use Rattle.acd_sql_statements.proofs.JoinedPlan.{grouped_so}
use Rattle.std.proofs.Common.{◌≡◌, map, rules}
use Rattle.acd_book.specs.Content.{Content}
use Rattle.acd_sql_columns.specs.Relations.{agent_part}
use Rattle.acd_sql_statements.proofs.ReadCauses.{cause_given, cause_as}
use Rattle.acd_sql_statements.proofs.PlanCauses.{cause_grouped}
use Rattle.acd_sql_statements.proofs.plan.grouped.Goals as goal

pub returns-clause-found : goal.returns-clause-found
returns-clause-found g c =
    grouped_so (state g.S.Store c.args.conn.now) (state g.S.Store c.further.new.conn) c.in_ok-further.further c.args.parts.now c.deref.result.now
    c.joined_agents.result c.deref.ensures.value c.in_ok-further.ensures.found c.joined_agents.ensures.agents

pub returns-in_err-further-clause-cause : goal.returns-in_err-further-clause-cause
returns-in_err-further-clause-cause g c =
    cause_given (λ (x : Content). c.args.parts.now ≡ map agent_part x.rows.agents) (state g.S.Store c.args.conn.now) (state g.S.Store c.further.new.conn) _
    (cause_as (state g.S.Store c.args.conn.now) (state g.S.Store c.further.new.conn) c.in_err-further.field-0.0 c.from_residual.result (search rules)
    c.in_err-further.ensures.cause)

pub returns-clause-cause : goal.returns-clause-cause
returns-clause-cause g c =
    cause_grouped (state g.S.Store c.args.conn.now) (state g.S.Store c.further.new.conn) c.in_ok-further.further c.args.parts.now c.deref.result.now
    c.joined_agents.result c.deref.ensures.value c.in_ok-further.ensures.cause c.in_ok-further.ensures.found c.joined_agents.ensures.other
