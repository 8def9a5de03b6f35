use Rattle.std.proofs.Common.{◌≡◌, Err, IfErr, rules, ap, subst, sym}
use Rattle.sqlite.specs.Held.{state}
use Rattle.sqlite.specs.Values.{bound}
use Rattle.acd_sql_columns.proofs.Writes.Statements.{ran_inside, works_inside}
use Rattle.acd_sql_statements.specs.StoreFailures.{FailsToWrite}
use Rattle.acd_sql_statements.proofs.Failures.{written}
use Rattle.acd_sql_statements.proofs.RefusalCauses.{unless_ok}
use Rattle.acd_sql_statements.proofs.write.write.Goals as goal

pub returns : goal.returns
returns g c = record {
  same = c.execute.ensures.same_reference;
  works =
      works_inside c.args.sql.now (bound c.args.params.now) (state g.S.Store c.args.tx.now.conn.now) (state g.S.Store c.execute.new.self.conn.now)
      c.execute.result
      c.execute.ensures.survives (λ clean inside. c.execute.ensures.runs clean inside) (λ out. ap (state g.S.Store) (c.execute.ensures.ended out).1);
  ran = λ clean.
      ran_inside c.args.sql.now (bound c.args.params.now) (state g.S.Store c.args.tx.now.conn.now) (state g.S.Store c.execute.new.self.conn.now) _
      c.in_ok-execute.field-0
      (λ out. (c.in_ok-execute.ensures.ended out).0) (λ inside. c.in_ok-execute.ensures.runs clean inside);
  failed = λ clean inside. tt;
}

pub returns-in_err-execute : goal.returns-in_err-execute
returns-in_err-execute g c = record {
  same = c.execute.ensures.same_reference;
  works =
      works_inside c.args.sql.now (bound c.args.params.now) (state g.S.Store c.args.tx.now.conn.now) (state g.S.Store c.execute.new.self.conn.now)
      c.execute.result
      c.execute.ensures.survives (λ clean inside. c.execute.ensures.runs clean inside) (λ out. ap (state g.S.Store) (c.execute.ensures.ended out).1);
  ran = λ clean. unless_ok _ c.in_err-execute.field-0.0 c.from_residual.result (search rules);
  failed = λ clean inside.
      let is : c.from_residual.result ≡ Err c.in_err-execute.field-0.0 = search rules in
      subst
      (λ r. IfErr r
      (FailsToWrite (state g.S.Store c.args.tx.now.conn.now) (state g.S.Store c.execute.new.self.conn.now) c.args.sql.now (bound c.args.params.now)))
      (sym is)
      (written (state g.S.Store c.args.tx.now.conn.now) (state g.S.Store c.execute.new.self.conn.now) c.args.sql.now (bound c.args.params.now)
      c.in_err-execute.field-0.0 (c.in_err-execute.ensures.runs clean inside));
}
