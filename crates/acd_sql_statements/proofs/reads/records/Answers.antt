use Rattle.std.proofs.Common.{rules}
use Rattle.acd_sql_statements.proofs.RowCauses.{none_decoded, one_more_decoded}
use Rattle.acd_sql_statements.proofs.reads.records.Goals as goal

pub returns-in_err-one-clause-bad : goal.returns-in_err-one-clause-bad
returns-in_err-one-clause-bad g c =
    none_decoded g.R.Decoded.in_row c.loop-row.row-index c.args.rows.now c.row-item.result _ c.in_err-one.field-0.0 c.from_residual.result (search rules)
    c.row-item.is c.loop-row-test.true c.in_err-one.ensures.bad

pub loop-row-preserved : goal.loop-row-preserved
loop-row-preserved g c =
    one_more_decoded g.R.Decoded.in_row c.loop-row.row-index c.args.rows.now c.row-item.result _ c.loop-row.records.items c.add.new.records.items
    c.in_ok-one.one c.row-item.is c.loop-row-test.true c.loop-row.invariant c.in_ok-one.ensures.one c.in_ok-add.ensures.added
