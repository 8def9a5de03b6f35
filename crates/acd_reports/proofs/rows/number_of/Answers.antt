use Rattle.acd_reports.proofs.RowLemmas.{next_value, next_small}
use Rattle.acd_reports.proofs.rows.number_of.Goals as goal

pub loop-digit-preserved : goal.loop-digit-preserved
loop-digit-preserved c =
    let digits = c.args.digits.now in
    let i = c.loop-digit.digit-index in
    record {
      value = next_value digits i c.loop-digit.number c.from.result c.loop-digit-test.true c.requires.all c.loop-digit.invariant.value c.from.ensures;
      small = next_small digits i c.loop-digit.number c.from.result c.loop-digit-test.true c.requires.all c.loop-digit.invariant.small c.from.ensures;
    }
