use Rattle.acd_sql_columns.proofs.Rows.GoodRecords.{group_good}
use Rattle.acd_sql_columns.proofs.good.group_is_good.Goals as goal

pub returns : goal.returns
returns c =
    group_good c.args.group.now
    (c.number.ensures.formed, (c.as_bytes.ensures.formed, (c.number-2.ensures.formed, (c.number-3.ensures.formed, (tt, (tt, (tt, (tt, (tt, tt)))))))))
    c.number-4.ensures.formed
