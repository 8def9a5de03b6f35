use Rattle.std.proofs.Common.{ℕ, List, map, sym, subst, ◌∙◌, arith}
use Rattle.sqlite.specs.State.{HasCleanDisk}
use Rattle.sqlite.specs.Held.{state}
use Rattle.acd_sql_columns.specs.Content.{with_part}
use Rattle.acd_sql_columns.specs.declared.tables.Table.TheVariants as table
use Rattle.acd_sql_columns.specs.Relations.{all_put}
use Rattle.acd_sql_columns.specs.Transactions.{HoldsUncommitted}
use Rattle.acd_sql_columns.proofs.Writes.TransactionEnds.{works_on}
use Rattle.acd_sql_statements.proofs.JoinedPlan.{pairs_more}
use Rattle.std.proofs.Common.{Err, rules, take}
use Rattle.acd_sql_columns.specs.Relations.{Relations}
use Rattle.acd_sql_columns.specs.Rows.{further_values}
use Rattle.acd_sql_columns.specs.declared.texts.TheConstants.{INSERT_AGENT_GROUP}
use Rattle.acd_sql_statements.specs.WriteRefusals.{RefusesOn, RefusesFurther}
use Rattle.acd_sql_statements.proofs.RefusalCauses.{any_default, by_more, by_same, by_later, unless_ok}
use Rattle.acd_sql_statements.proofs.parts.insert_all.Goals as goal
use Rattle.std.proofs.lemmas.List.{take_all}

pub loop-group-preserved : goal.loop-group-preserved
loop-group-preserved g c =
    let inv = c.loop-group.invariant in
    let e = c.insert_further.ensures in
    record {
      same = e.same ∙ inv.same;
      works = works_on _ _ _ inv.works e.works;
      put = λ clean r d.
          let before : HasCleanDisk (state g.S.Store c.loop-group.tx.conn.now) = omega (arith, clean, e.works.survives.clean) in
          subst (λ (ps : List (ℕ × ℕ)). HoldsUncommitted (state g.S.Store c.insert_further.new.tx.conn.now) (with_part table.AgentGroups ps r))
          (sym (pairs_more c.args.agent c.loop-group.group-index c.args.groups.now _ _ r.further c.group-item.is c.loop-group-test.true))
          (c.in_ok-insert_further.ensures.put clean _ (inv.put before r d));
    }

pub returns : goal.returns
returns g c = record {
  same = c.loop-group.invariant.same;
  works = c.loop-group.invariant.works;
  put = λ clean r d.
      subst
      (λ (gs : List ℕ). HoldsUncommitted (state g.S.Store c.loop-group.tx.conn.now)
      (with_part table.AgentGroups (all_put (map (λ (k : ℕ). (c.args.agent, k)) gs) r.further) r))
      (take_all c.loop-group.group-index c.args.groups.now c.loop-group-test.false)
      (c.loop-group.invariant.put clean r d);
  failed = λ clean r d. tt;
}

pub returns-in_err-insert_further : goal.returns-in_err-insert_further
returns-in_err-insert_further g c = record {
  same = c.insert_further.ensures.same ∙ c.loop-group.invariant.same;
  works = works_on _ _ _ c.loop-group.invariant.works c.insert_further.ensures.works;
  put = λ clean. unless_ok _ c.in_err-insert_further.field-0.0 c.from_residual.result (search rules);
  failed =
      let old = state g.S.Store c.args.tx.now.conn.now in
      let mid = state g.S.Store c.loop-group.tx.conn.now in
      let new = state g.S.Store c.insert_further.new.tx.conn.now in
      let i = c.loop-group.group-index in
      let agent = c.args.agent in
      let gs = c.args.groups.now in
      let one = RefusesOn INSERT_AGENT_GROUP.now (further_values (agent, c.group-item.result)) in
      let so_far : Relations → Relations = λ (r : Relations). with_part table.AgentGroups (all_put (map (λ (k : ℕ). (agent, k)) (take i gs)) r.further) r in
      by_more old new (λ limit r. one limit (so_far r)) (RefusesFurther agent gs) c.from_residual.result
      (λ limit r h. (
        i,
        c.loop-group-test.true,
        subst (λ (k : ℕ). RefusesOn INSERT_AGENT_GROUP.now (further_values (agent, k)) limit (so_far r))
            (c.group-item.is ∙ any_default gs i _ 0 c.loop-group-test.true) h,
      ))
      (by_same old new (λ limit r. one limit (so_far r)) c.in_err-insert_further.field-0.0 c.from_residual.result (search rules)
      (by_later {A = Unit {0}} old mid new so_far one (Err c.in_err-insert_further.field-0.0) c.loop-group.invariant.works c.insert_further.ensures.works
      c.loop-group.invariant.put c.in_err-insert_further.ensures.failed));
}
