use Rattle.acd_sql_statements.proofs.records.GroupRowStored.run.Goals as goal

pub returns : goal.returns
returns g c = rw (c.group_values.ensures) at c.changed_rows.ensures
