use Rattle.std.proofs.Common.{◌∙◌, sym}
use Rattle.acd_sql_schema.proofs.LogPages.{last_step, last_stop, last_end, number_fits}
use Rattle.acd_sql_schema.proofs.inspection.last_good.Goals as goal

pub loop-row-preserved : goal.loop-row-preserved
loop-row-preserved c = record {
  left =
      last_step c.args.log c.args.number c.loop-row.last c.args.rows.now c.loop-row.row-index c.loop-row.invariant.left c.row-item.result _ c.in-Some.next
      c.row-item.is c.loop-row-test.true (sym c.in_ok-next.ensures.number ∙ c.in-Some.is);
  fits =
      number_fits c.args.log c.row-item.result c.number_of-fits.result c.in-Some.next c.number_of-fits.ensures.value c.number_of-fits.ensures.fits
      (sym c.in_ok-next.ensures.number ∙ c.in-Some.is);
}

pub returns-in-None-clause-last : goal.returns-in-None-clause-last
returns-in-None-clause-last c =
    last_stop c.args.log c.args.number c.loop-row.last c.args.rows.now c.loop-row.row-index c.loop-row.invariant.left c.row-item.result _ c.row-item.is
    c.loop-row-test.true (sym c.in_ok-next.ensures.number ∙ c.in-None.is)

pub returns-clause-last : goal.returns-clause-last
returns-clause-last c = last_end c.args.log c.args.number c.loop-row.last c.args.rows.now c.loop-row.row-index c.loop-row.invariant.left c.loop-row-test.false
