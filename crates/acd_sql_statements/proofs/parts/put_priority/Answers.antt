use Rattle.std.proofs.Common.{◌≡◌, true, false, cond, ◌==◌, ap, sym, ◌∙◌, arith}
use Rattle.std.specs.Ordering.{nat_cmp}
use Rattle.sqlite.specs.Held.{state}
use Rattle.acd_terms.specs.Lists.{put_by, remove_by}
use Rattle.acd_sql_columns.specs.declared.relations.GroupPriority.{GroupPriority}
use Rattle.acd_sql_columns.specs.Relations.{Relations, with_priority_of, priority_part}
use Rattle.acd_sql_columns.specs.Tables.{group_priority}
use Rattle.acd_sql_statements.specs.StatementEffects.{with_put, without}
use Rattle.acd_sql_columns.proofs.Rows.Bounds.{id_fits}
use Rattle.acd_sql_statements.proofs.JoinedPlan.{leaves_as}
use Rattle.std.proofs.Common.{inl, inr, subst, [], ◌∷◌}
use Rattle.acd_sql_columns.specs.Values.{id_value}
use Rattle.acd_sql_columns.specs.declared.texts.TheConstants.{DELETE_GROUP_PRIORITY, UPDATE_GROUP_PRIORITY}
use Rattle.acd_sql_statements.specs.WriteRefusals.{RefusesOn, RefusesPut, RefusesPriority}
use Rattle.acd_sql_statements.proofs.RefusalCauses.{by_more}
use Rattle.acd_sql_statements.proofs.parts.put_priority.Goals as goal

pub remove-requires-clause-key : goal.remove-requires-clause-key
remove-requires-clause-key g c = rw c.number.ensures.value (id_fits 15 _ (omega arith) c.number.ensures.formed)

pub returns-then-eq : goal.returns-then-eq
returns-then-eq g c = record {
  same = c.remove.ensures.same;
  works = c.remove.ensures.works;
  put = λ clean.
      let z = c.args.group.now in
      let none : (z.priority == 0) ≡ true = ap (λ n. z.priority == n) (sym c.lowest.ensures) ∙ sym c.eq.ensures ∙ c.if-eq.true in
      leaves_as (state g.S.Store c.args.tx.now.conn.now) (state g.S.Store c.remove.new.tx.conn.now) c.remove.result (without group_priority c.number.result)
      (λ r. record r { priorities = with_priority_of z r.priorities }) (c.remove.ensures.put clean)
      (λ (r : Relations). ap (λ n. without group_priority n r) c.number.ensures.value
      ∙ ap (λ b. record r {
        priorities =
            cond b (remove_by (λ (p : GroupPriority). nat_cmp z.device p.device) r.priorities)
            (put_by (λ (p : GroupPriority). nat_cmp z.device p.device) r.priorities (priority_part z));
      }) (sym none));
  failed =
      let old = state g.S.Store c.args.tx.now.conn.now in
      let new = state g.S.Store c.remove.new.tx.conn.now in
      let z = c.args.group.now in
      by_more old new (RefusesOn DELETE_GROUP_PRIORITY.now (id_value c.number.result ∷ [])) (RefusesPriority z) c.remove.result
      (λ limit r h. inl (subst (λ n. RefusesOn DELETE_GROUP_PRIORITY.now (id_value n ∷ []) limit r) c.number.ensures.value h)) c.remove.ensures.failed;
}

pub returns-else-eq : goal.returns-else-eq
returns-else-eq g c = record {
  same = c.put.ensures.same;
  works = c.put.ensures.works;
  put = λ clean.
      let z = c.args.group.now in
      let some : (z.priority == 0) ≡ false = ap (λ n. z.priority == n) (sym c.lowest.ensures) ∙ sym c.eq.ensures ∙ c.if-eq.false in
      leaves_as (state g.S.Store c.args.tx.now.conn.now) (state g.S.Store c.put.new.tx.conn.now) c.put.result (with_put group_priority (priority_part z))
      (λ r. record r { priorities = with_priority_of z r.priorities }) (c.put.ensures.put clean)
      (λ (r : Relations).
      ap (λ b. record r {
        priorities =
            cond b (remove_by (λ (p : GroupPriority). nat_cmp z.device p.device) r.priorities)
            (put_by (λ (p : GroupPriority). nat_cmp z.device p.device) r.priorities (priority_part z));
      }) (sym some));
  failed =
      let old = state g.S.Store c.args.tx.now.conn.now in
      let new = state g.S.Store c.put.new.tx.conn.now in
      let z = c.args.group.now in
      by_more old new (RefusesPut group_priority UPDATE_GROUP_PRIORITY.now (priority_part z)) (RefusesPriority z) c.put.result (λ limit r h. inr h)
      c.put.ensures.failed;
}
