use Rattle.acd_sql_columns.proofs.Rows.GoodRecords.{call_good}
use Rattle.acd_sql_columns.proofs.good.call_is_good.Goals as goal

pub returns : goal.returns
returns c = call_good c.args.call.now (c.requires, (c.number.ensures.formed, (c.number-2.ensures.formed, (c.moment.ensures, tt))))
