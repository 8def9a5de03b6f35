use Rattle.std.proofs.Common.{[], ◌∷◌}
use Rattle.sqlite.specs.Held.{state}
use Rattle.acd_sql_columns.specs.Values.{id_value}
use Rattle.acd_sql_columns.specs.declared.texts.TheConstants.{DELETE_AGENT_GROUPS}
use Rattle.acd_sql_columns.proofs.FileTables.AgentGroups.{drops_groups}
use Rattle.acd_sql_columns.proofs.Writes.Common.{changes_uncommitted}
use Rattle.acd_sql_statements.proofs.RefusalCauses.{by_one}
use Rattle.acd_sql_statements.proofs.parts.drop_further.Goals as goal

pub returns : goal.returns
returns g c = record {
  same = c.write.ensures.same;
  works = c.write.ensures.works;
  put = λ clean.
      let old = state g.S.Store c.args.tx.now.conn.now in
      let new = state g.S.Store c.write.new.tx.conn.now in
      changes_uncommitted DELETE_AGENT_GROUPS.now (id_value c.args.agent ∷ []) _ old new c.write.result (λ x count. drops_groups c.args.agent x old new count)
      (rw c.agent.ensures at (c.write.ensures.ran clean));
  failed =
      by_one (state g.S.Store c.args.tx.now.conn.now) (state g.S.Store c.write.new.tx.conn.now) DELETE_AGENT_GROUPS.now (id_value c.args.agent ∷ [])
      c.write.result
      (λ clean inside. rw c.agent.ensures at (c.write.ensures.failed clean inside));
}
