use Rattle.acd_sql_statements.proofs.records.AgentRowStored.run.Goals as goal

pub returns : goal.returns
returns g c = rw (c.agent_values.ensures) at c.changed_rows.ensures
