use Rattle.acd_sql_columns.proofs.Rows.ValuesInRange.{utf8_is, utf8_isnt}
use Rattle.acd_sql_columns.proofs.values.utf8.Goals as goal

pub returns-in-Ok : goal.returns-in-Ok
returns-in-Ok c = utf8_is c.args.text.now c.in-Ok.text.now c.in-Ok.ensures.cases.0 c.in-Ok.ensures.cases.1

pub returns-in-Err : goal.returns-in-Err
returns-in-Err c = utf8_isnt c.args.text.now c.in-Err.ensures.cases.0
