use Rattle.std.proofs.Common.{ap}
use Rattle.sqlite.specs.Held.{state}
use Rattle.sqlite.specs.Values.{bound}
use Rattle.acd_sql_columns.proofs.Writes.Statements.{counts_inside, works_inside}
use Rattle.acd_sql_statements.proofs.Failures.{written_if}
use Rattle.acd_sql_statements.proofs.write.changed_rows.Goals as goal

pub returns : goal.returns
returns g c = record {
  same = c.execute.ensures.same_reference;
  works =
      works_inside c.args.sql.now (bound c.args.params.now) (state g.S.Store c.args.tx.now.conn.now) (state g.S.Store c.execute.new.self.conn.now)
      c.execute.result
      c.execute.ensures.survives (λ clean inside. c.execute.ensures.runs clean inside) (λ out. ap (state g.S.Store) (c.execute.ensures.ended out).1);
  ran = λ clean.
      counts_inside c.args.sql.now (bound c.args.params.now) (state g.S.Store c.args.tx.now.conn.now) (state g.S.Store c.execute.new.self.conn.now) _
      c.execute.result
      (λ out. (c.execute.ensures.ended out).0) (λ inside. c.execute.ensures.runs clean inside);
  failed = λ clean inside.
      written_if (state g.S.Store c.args.tx.now.conn.now) (state g.S.Store c.execute.new.self.conn.now) c.args.sql.now (bound c.args.params.now)
      c.execute.result (c.execute.ensures.runs clean inside);
}
