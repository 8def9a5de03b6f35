use Rattle.std.proofs.Common.{◌≡◌, map, take, Some}
use Rattle.acd_sql_statements.proofs.select.records_of.Given as goal

abbrev pub invariant-loop-row : goal.invariant-loop-row
invariant-loop-row g l = map Some l.records.items ≡ map g.R.Stored.descr.in_row (take l.row-index l.rows)
