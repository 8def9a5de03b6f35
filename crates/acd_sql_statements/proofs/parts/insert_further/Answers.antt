use Rattle.sqlite.specs.Held.{state}
use Rattle.acd_sql_columns.specs.Rows.{further_values}
use Rattle.acd_sql_columns.specs.declared.texts.TheConstants.{INSERT_AGENT_GROUP}
use Rattle.acd_sql_columns.proofs.FileTables.AgentGroups.{inserts_group}
use Rattle.acd_sql_columns.proofs.Writes.Common.{changes_uncommitted}
use Rattle.acd_sql_statements.proofs.RefusalCauses.{by_one}
use Rattle.acd_sql_statements.proofs.parts.insert_further.Goals as goal

pub returns : goal.returns
returns g c = record {
  same = c.write.ensures.same;
  works = c.write.ensures.works;
  put = λ clean.
      let old = state g.S.Store c.args.tx.now.conn.now in
      let new = state g.S.Store c.write.new.tx.conn.now in
      changes_uncommitted INSERT_AGENT_GROUP.now (further_values (c.args.agent, c.args.group)) _ old new c.write.result
      (λ x count. inserts_group (c.args.agent, c.args.group) x old new count)
      (rw (c.agent.ensures, c.device.ensures) at (c.write.ensures.ran clean));
  failed =
      by_one (state g.S.Store c.args.tx.now.conn.now) (state g.S.Store c.write.new.tx.conn.now) INSERT_AGENT_GROUP.now
      (further_values (c.args.agent, c.args.group)) c.write.result
      (λ clean inside. rw (c.agent.ensures, c.device.ensures) at (c.write.ensures.failed clean inside));
}
