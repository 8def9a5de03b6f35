use Rattle.std.proofs.Common.{rules}
use Rattle.sqlite.specs.Held.{state}
use Rattle.acd_sql_columns.proofs.FileTables.DescribedTable.{inserted_in}
use Rattle.acd_sql_statements.specs.WriteRefusals.{RefusesOn}
use Rattle.acd_sql_statements.proofs.RefusalCauses.{refused_on, by_same, unless_ok}
use Rattle.acd_sql_statements.proofs.put.insert.Goals as goal

pub returns : goal.returns
returns g c = record {
  same = c.run.ensures.same;
  works = c.run.ensures.works;
  put = λ clean content uncommitted.
      inserted_in g.R.Stored.descr g.met.R.Stored.described c.args.item.now (g.met.R.Stored.reads c.args.item.now) content
      (state g.S.Store c.args.tx.now.conn.now) (state g.S.Store c.run.new.tx.conn.now) c.in_ok-run.field-0 uncommitted
      (rw (c.texts.ensures.insert) at (c.in_ok-run.ensures.ran clean));
  failed = λ clean r d. tt;
}

pub returns-in_err-run : goal.returns-in_err-run
returns-in_err-run g c = record {
  same = c.run.ensures.same;
  works = c.run.ensures.works;
  put = λ clean. unless_ok _ c.in_err-run.field-0.0 c.from_residual.result (search rules);
  failed =
      let old = state g.S.Store c.args.tx.now.conn.now in
      let new = state g.S.Store c.run.new.tx.conn.now in
      let values = g.R.Stored.descr.values c.args.item.now in
      by_same old new (RefusesOn g.R.Stored.descr.insert values) c.in_err-run.field-0.0 c.from_residual.result (search rules)
      (λ clean r d. refused_on old new g.R.Stored.descr.insert values c.in_err-run.field-0.0 r d
      (rw c.texts.ensures.insert at (c.in_err-run.ensures.failed clean d.inside)));
}
