use Rattle.acd_sql_columns.proofs.Rows.GoodRecords.{monitor_good}
use Rattle.acd_sql_columns.proofs.good.monitor_is_good.Goals as goal

pub returns : goal.returns
returns c = monitor_good c.args.monitor.now (c.requires, (c.number.ensures.formed, (tt, tt)))
