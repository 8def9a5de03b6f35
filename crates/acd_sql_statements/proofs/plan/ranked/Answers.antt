use Rattle.sqlite.specs.Held.{state}
use Rattle.acd_sql_statements.proofs.ReadsInTurn.{finds_failed}
use Rattle.acd_sql_statements.proofs.JoinedPlan.{ranked_so}
use Rattle.std.proofs.Common.{refl, rules}
use Rattle.acd_sql_statements.proofs.ReadTexts.{priorities_answered}
use Rattle.acd_sql_statements.proofs.ReadCauses.{cause_memory, cause_as}
use Rattle.acd_sql_statements.proofs.plan.ranked.Goals as goal

pub returns : goal.returns
returns g c = record {
  found =
      ranked_so (state g.S.Store c.args.conn.now) (state g.S.Store c.records.new.conn) c.in_ok-priorities.priorities c.args.parts.now c.deref.result.now
      c.joined_groups.result c.deref.ensures.value c.in_ok-priorities.ensures.found c.joined_groups.ensures.groups;
  cause =
      cause_memory (state g.S.Store c.args.conn.now) (state g.S.Store c.records.new.conn) c.in_ok-priorities.priorities c.joined_groups.result
      (c.in_ok-priorities.ensures.cause priorities_answered (λ x. refl)) c.joined_groups.ensures.full;
}

pub returns-in_err-priorities : goal.returns-in_err-priorities
returns-in_err-priorities g c = record {
  found = finds_failed c.in_err-priorities.ensures.found (search rules);
  cause =
      cause_as (state g.S.Store c.args.conn.now) (state g.S.Store c.records.new.conn) c.in_err-priorities.field-0.0 c.from_residual.result (search rules)
      (c.in_err-priorities.ensures.cause priorities_answered (λ x. refl));
}
