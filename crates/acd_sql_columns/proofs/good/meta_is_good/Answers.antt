use Rattle.acd_sql_columns.proofs.Rows.GoodRecords.{meta_good}
use Rattle.acd_sql_columns.proofs.good.meta_is_good.Goals as goal

pub returns : goal.returns
returns c = meta_good c.args.meta.now (tt, (tt, (tt, (tt, (tt, (tt, (tt, (c.moment.ensures, (tt, (tt, (tt, tt)))))))))))
