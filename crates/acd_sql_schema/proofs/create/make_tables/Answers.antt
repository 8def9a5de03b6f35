use Rattle.std.proofs.Common.{rules}
use Rattle.acd_sql_columns.specs.SchemaSteps.{no_rows}
use Rattle.acd_sql_schema.proofs.Steps.{followed, halted}
use Rattle.acd_sql_schema.proofs.create.make_tables.Goals as goal

pub returns-in_err-make_nine : goal.returns-in_err-make_nine
returns-in_err-make_nine g c = halted c.in_err-make_nine.ensures (search rules)

pub returns : goal.returns
returns g c = followed c.in_ok-make_nine.ensures (c.make_two.ensures (no_rows 9))
