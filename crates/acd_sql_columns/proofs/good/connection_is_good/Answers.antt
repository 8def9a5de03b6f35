use Rattle.acd_sql_columns.proofs.Rows.GoodRecords.{connection_good}
use Rattle.acd_sql_columns.proofs.good.connection_is_good.Goals as goal

pub returns : goal.returns
returns c =
    connection_good c.args.connection.now (
      c.requires.call,
      (c.number.ensures.formed, (tt, (c.device_or_none.ensures, (c.requires.place, (c.moment_or_none.ensures, (c.moment_or_none-2.ensures, tt)))))),
    )
