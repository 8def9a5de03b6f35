use Rattle.acd_sql_columns.proofs.Rows.GoodRecords.{station_good}
use Rattle.acd_sql_columns.proofs.good.station_is_good.Goals as goal

pub returns : goal.returns
returns c = station_good c.args.station.now (c.number.ensures.formed, tt)
