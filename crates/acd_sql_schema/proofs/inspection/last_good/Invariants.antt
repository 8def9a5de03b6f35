use Rattle.std.proofs.Common.{◌≡◌, drop}
use Rattle.acd_sql_columns.specs.Transactions.{Fits}
use Rattle.acd_sql_schema.specs.Inspection.{last_good}
use Rattle.acd_sql_schema.proofs.inspection.last_good.Given as goal

abbrev pub invariant-loop-row : goal.invariant-loop-row
invariant-loop-row l = record {
  left : last_good l.log l.last (drop l.row-index l.rows) ≡ last_good l.log l.number l.rows;
  fits : Fits l.last;
}
