use Rattle.acd_sql_schema.proofs.create.make.Goals as goal

pub returns : goal.returns
returns g c = c.write.ensures
