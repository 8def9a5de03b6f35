use Rattle.std.proofs.Common.{ap, arith, ◌∙◌}
use Rattle.sqlite.specs.Held.{state}
use Rattle.acd_sql_columns.proofs.Writes.TransactionEnds.{works_on}
use Rattle.sqlite.specs.State.{HasCleanDisk}
use Rattle.acd_sql_columns.specs.declared.relations.GroupRow.{GroupRow}
use Rattle.acd_sql_columns.specs.Relations.{Relations, with_priority_of, with_group_parts}
use Rattle.acd_sql_columns.specs.Tables.{groups}
use Rattle.acd_sql_statements.specs.StatementEffects.{with_put}
use Rattle.acd_sql_statements.proofs.JoinedPlan.{leaves_on}
use Rattle.std.proofs.Common.{inl, inr, rules, subst}
use Rattle.acd_sql_columns.specs.declared.texts.TheConstants.{UPDATE_GROUP}
use Rattle.acd_sql_statements.specs.WriteRefusals.{RefusesPut, RefusesPriority, RefusesGroup}
use Rattle.acd_sql_statements.proofs.RefusalCauses.{by_more, by_same, by_later, unless_ok}
use Rattle.acd_sql_statements.proofs.parts.put_group.Goals as goal

pub returns : goal.returns
returns g c = record {
  same = c.put_priority.ensures.same ∙ c.put.ensures.same;
  works = works_on _ _ _ c.put.ensures.works c.put_priority.ensures.works;
  put = λ clean.
      let z = c.args.group.now in
      let mid = state g.S.Store c.put.new.tx.conn.now in
      let middle : HasCleanDisk mid = omega (arith, clean, c.put_priority.ensures.works.survives.clean) in
      leaves_on (state g.S.Store c.args.tx.now.conn.now) mid (state g.S.Store c.put_priority.new.tx.conn.now) c.put_priority.result
      (with_put groups c.of.result) (λ r. record r { priorities = with_priority_of z r.priorities }) (with_group_parts z)
      (c.in_ok-put.ensures.put middle) (c.put_priority.ensures.put clean)
      (λ (r : Relations). ap (λ (x : GroupRow). let s : Relations = with_put groups x r in record s { priorities = with_priority_of z s.priorities })
      c.of.ensures);
  failed =
      let old = state g.S.Store c.args.tx.now.conn.now in
      let mid = state g.S.Store c.put.new.tx.conn.now in
      let new = state g.S.Store c.put_priority.new.tx.conn.now in
      let z = c.args.group.now in
      by_more old new (λ limit r. RefusesPriority z limit (with_put groups c.of.result r)) (RefusesGroup z) c.put_priority.result
      (λ limit r h. inr (subst (λ (x : GroupRow). RefusesPriority z limit (with_put groups x r)) c.of.ensures h))
      (by_later old mid new (with_put groups c.of.result) (RefusesPriority z) c.put_priority.result c.put.ensures.works c.put_priority.ensures.works
      c.in_ok-put.ensures.put c.put_priority.ensures.failed);
}

pub returns-in_err-put : goal.returns-in_err-put
returns-in_err-put g c = record {
  same = c.put.ensures.same;
  works = c.put.ensures.works;
  put = λ clean. unless_ok _ c.in_err-put.field-0.0 c.from_residual.result (search rules);
  failed =
      let old = state g.S.Store c.args.tx.now.conn.now in
      let mid = state g.S.Store c.put.new.tx.conn.now in
      by_more old mid (RefusesPut groups UPDATE_GROUP.now c.of.result) (RefusesGroup c.args.group.now) c.from_residual.result
      (λ limit r h. inl (subst (λ (x : GroupRow). RefusesPut groups UPDATE_GROUP.now x limit r) c.of.ensures h))
      (by_same old mid (RefusesPut groups UPDATE_GROUP.now c.of.result) c.in_err-put.field-0.0 c.from_residual.result (search rules)
      c.in_err-put.ensures.failed);
}
