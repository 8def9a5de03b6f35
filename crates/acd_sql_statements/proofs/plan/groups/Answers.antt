use Rattle.std.proofs.Common.{◌≡◌, map, ◌∙◌, rules}
use Rattle.std.specs.Prelude.{Vec}
use Rattle.std.specs.declared.alloc.Global.{Global}
use Rattle.sqlite.specs.Held.{state}
use Rattle.acd_terms.specs.declared.record.GroupRecord.{GroupRecord}
use Rattle.acd_book.specs.Content.{Content}
use Rattle.acd_sql_columns.specs.declared.relations.GroupRow.{GroupRow}
use Rattle.acd_sql_columns.specs.Relations.{group_part}
use Rattle.acd_sql_statements.proofs.ReadsInTurn.{finds_after, finds_failed}
use Rattle.acd_sql_statements.proofs.ReadTexts.{groups_answered}
use Rattle.acd_sql_statements.proofs.ReadCauses.{cause_after, cause_as}
use Rattle.acd_sql_statements.proofs.PlanCauses.{groups_have_values}
use Rattle.acd_sql_statements.proofs.plan.groups.Goals as goal

pub returns : goal.returns
returns g c = record {
  found =
      finds_after (state g.S.Store c.args.conn.now) (state g.S.Store c.records.new.conn) (state g.S.Store c.ranked.new.conn) c.in_ok-parts.parts c.ranked.result
      (λ (x : Content) (parts : Vec GroupRow Global). parts.items ≡ map group_part x.rows.groups)
      (λ (x : Content) (found : Vec GroupRecord Global). c.deref.result.now ≡ map group_part x.rows.groups → found.items ≡ x.rows.groups)
      (λ (x : Content) (found : Vec GroupRecord Global). found.items ≡ x.rows.groups) c.in_ok-parts.ensures.found
      (λ x found p q. q (c.deref.ensures.value ∙ p)) c.ranked.ensures.found;
  cause =
      cause_after (state g.S.Store c.args.conn.now) (state g.S.Store c.records.new.conn) (state g.S.Store c.ranked.new.conn) c.in_ok-parts.parts c.ranked.result
      (c.in_ok-parts.ensures.cause groups_answered groups_have_values) c.in_ok-parts.ensures.found.quiet c.in_ok-parts.ensures.found.up
      c.ranked.ensures.found.quiet.clean c.ranked.ensures.cause;
}

pub returns-in_err-parts : goal.returns-in_err-parts
returns-in_err-parts g c = record {
  found = finds_failed c.in_err-parts.ensures.found (search rules);
  cause =
      cause_as (state g.S.Store c.args.conn.now) (state g.S.Store c.records.new.conn) c.in_err-parts.field-0.0 c.from_residual.result (search rules)
      (c.in_err-parts.ensures.cause groups_answered groups_have_values);
}
