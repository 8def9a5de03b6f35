use Rattle.sqlite.specs.Held.{state}
use Rattle.acd_sql_columns.specs.Relations.{with_agent_parts}
use Rattle.acd_model.specs.declared.moves.Change.TheVariants.{PutAgent}
use Rattle.acd_sqlbook.specs.Commit.{applied}
use Rattle.acd_sqlbook.proofs.WritesInTurn.{leaving, agent_applied}
use Rattle.acd_sqlbook.proofs.commit.write_agent.Goals as goal

pub returns-clause-put : goal.returns-clause-put
returns-clause-put g c clean =
    let old = state g.S.Store c.args.tx.now.conn.now in
    let agent = c.args.agent.now in
    leaving old (state g.S.Store c.put_agent.new.tx.conn.now) c.put_agent.result (with_agent_parts agent) (λ x. applied x (PutAgent agent))
    (agent_applied agent c.as_slice-ascending.ensures.ascending old) (c.put_agent.ensures.put clean)
