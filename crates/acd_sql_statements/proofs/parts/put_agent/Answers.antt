use Rattle.std.proofs.Common.{ℕ, List, map, filter, not, ◌==◌, ap, ◌∙◌, arith}
use Rattle.sqlite.specs.Held.{state}
use Rattle.sqlite.specs.State.{HasCleanDisk}
use Rattle.acd_sql_columns.specs.declared.relations.AgentRow.{AgentRow}
use Rattle.acd_sql_columns.specs.declared.tables.Table.TheVariants as table
use Rattle.acd_sql_columns.specs.Content.{with_part}
use Rattle.acd_sql_columns.specs.Relations.{Relations, all_put, with_agent_parts}
use Rattle.acd_sql_columns.specs.Tables.{agents}
use Rattle.acd_sql_statements.specs.StatementEffects.{with_put}
use Rattle.acd_sql_statements.proofs.JoinedPlan.{leaves_on}
use Rattle.std.proofs.Common.{[], ◌∷◌, Err, inl, inr, rules, subst}
use Rattle.acd_terms.specs.Groups.{further_groups}
use Rattle.acd_sql_columns.specs.Values.{id_value}
use Rattle.acd_sql_columns.specs.declared.texts.TheConstants.{UPDATE_AGENT, DELETE_AGENT_GROUPS}
use Rattle.acd_sql_columns.proofs.Writes.TransactionEnds.{works_on}
use Rattle.acd_sql_statements.specs.WriteRefusals.{RefusesOn, RefusesPut, RefusesFurther, RefusesAgent, without_further}
use Rattle.acd_sql_statements.proofs.RefusalCauses.{by_more, by_same, by_later, unless_ok}
use Rattle.acd_sql_statements.proofs.parts.put_agent.Goals as goal

pub returns : goal.returns
returns g c = record {
  same = c.insert_all.ensures.same ∙ c.drop_further.ensures.same ∙ c.put.ensures.same;
  works = works_on _ _ _ (works_on _ _ _ c.put.ensures.works c.drop_further.ensures.works) c.insert_all.ensures.works;
  put = λ clean.
      let a = c.args.agent.now in
      let first = state g.S.Store c.put.new.tx.conn.now in
      let mid = state g.S.Store c.drop_further.new.tx.conn.now in
      let middle : HasCleanDisk mid = omega (arith, clean, c.insert_all.ensures.works.survives.clean) in
      let before : HasCleanDisk first = omega (arith, middle, c.drop_further.ensures.works.survives.clean) in
      let put = c.in_ok-put.ensures.put before in
      let drop = c.in_ok-drop_further.ensures.put middle in
      leaves_on (state g.S.Store c.args.tx.now.conn.now) mid (state g.S.Store c.insert_all.new.tx.conn.now) c.insert_all.result
      (λ r. let s : Relations = with_put agents c.of.result r in with_part table.AgentGroups (filter (λ (p : ℕ × ℕ). not (p.0 == a.agent)) s.further) s)
      (λ r. with_part table.AgentGroups (all_put (map (λ (k : ℕ). (a.agent, k)) c.further.result.now) r.further) r) (with_agent_parts a)
      (λ r d. drop (with_put agents c.of.result r) (put r d)) (c.insert_all.ensures.put clean)
      (λ (r : Relations).
      ap
      (λ (gs : List ℕ). let s : Relations = with_put agents c.of.result r in
      let t : Relations = with_part table.AgentGroups (filter (λ (p : ℕ × ℕ). not (p.0 == a.agent)) s.further) s in
      with_part table.AgentGroups (all_put (map (λ (k : ℕ). (a.agent, k)) gs) t.further) t)
      c.further.ensures
      ∙ ap (λ (x : AgentRow). let s : Relations = with_put agents x r in record s { further = (with_agent_parts a r).further }) c.of.ensures);
  failed =
      let old = state g.S.Store c.args.tx.now.conn.now in
      let first = state g.S.Store c.put.new.tx.conn.now in
      let mid = state g.S.Store c.drop_further.new.tx.conn.now in
      let new = state g.S.Store c.insert_all.new.tx.conn.now in
      let a = c.args.agent.now in
      let some = RefusesFurther a.agent c.further.result.now in
      let made : Relations → Relations = λ (r : Relations). without_further a.agent (with_put agents c.of.result r) in
      by_more old new (λ limit r. some limit (made r)) (RefusesAgent a) c.insert_all.result
      (λ limit r h. inr
      (inr (subst (λ (x : AgentRow). RefusesFurther a.agent (further_groups a.groups) limit (without_further a.agent (with_put agents x r))) c.of.ensures
      (subst (λ (gs : List ℕ). RefusesFurther a.agent gs limit (made r)) c.further.ensures h))))
      (by_later old mid new made some c.insert_all.result (works_on old first mid c.put.ensures.works c.drop_further.ensures.works) c.insert_all.ensures.works
      (λ middle r d. let before : HasCleanDisk first = omega (arith, middle, c.drop_further.ensures.works.survives.clean) in
      c.in_ok-drop_further.ensures.put middle _ (c.in_ok-put.ensures.put before r d))
      c.insert_all.ensures.failed);
}

pub returns-in_err-put : goal.returns-in_err-put
returns-in_err-put g c = record {
  same = c.put.ensures.same;
  works = c.put.ensures.works;
  put = λ clean. unless_ok _ c.in_err-put.field-0.0 c.from_residual.result (search rules);
  failed =
      let old = state g.S.Store c.args.tx.now.conn.now in
      let mid = state g.S.Store c.put.new.tx.conn.now in
      by_more old mid (RefusesPut agents UPDATE_AGENT.now c.of.result) (RefusesAgent c.args.agent.now) c.from_residual.result
      (λ limit r h. inl (subst (λ (x : AgentRow). RefusesPut agents UPDATE_AGENT.now x limit r) c.of.ensures h))
      (by_same old mid (RefusesPut agents UPDATE_AGENT.now c.of.result) c.in_err-put.field-0.0 c.from_residual.result (search rules)
      c.in_err-put.ensures.failed);
}

pub returns-in_err-drop_further : goal.returns-in_err-drop_further
returns-in_err-drop_further g c = record {
  same = c.drop_further.ensures.same ∙ c.put.ensures.same;
  works = works_on _ _ _ c.put.ensures.works c.drop_further.ensures.works;
  put = λ clean. unless_ok _ c.in_err-drop_further.field-0.0 c.from_residual-in_err-drop_further.result (search rules);
  failed =
      let old = state g.S.Store c.args.tx.now.conn.now in
      let mid = state g.S.Store c.put.new.tx.conn.now in
      let new = state g.S.Store c.drop_further.new.tx.conn.now in
      let a = c.args.agent.now in
      let one = RefusesOn DELETE_AGENT_GROUPS.now (id_value a.agent ∷ []) in
      let put : Relations → Relations = with_put agents c.of.result in
      by_more old new (λ limit r. one limit (put r)) (RefusesAgent a) c.from_residual-in_err-drop_further.result
      (λ limit r h. inr (inl (subst (λ (x : AgentRow). one limit (with_put agents x r)) c.of.ensures h)))
      (by_same old new (λ limit r. one limit (put r)) c.in_err-drop_further.field-0.0 c.from_residual-in_err-drop_further.result (search rules)
      (by_later {A = Unit {0}} old mid new put one (Err c.in_err-drop_further.field-0.0) c.put.ensures.works c.drop_further.ensures.works
      c.in_ok-put.ensures.put c.in_err-drop_further.ensures.failed));
}
