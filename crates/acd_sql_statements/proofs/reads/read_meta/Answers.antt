use Rattle.std.proofs.Common.{rules}
use Rattle.sqlite.specs.Held.{state}
use Rattle.acd_sql_statements.proofs.ReadsInTurn.{finds_meta, finds_failed}
use Rattle.acd_sql_statements.proofs.ReadCauses.{cause_meta, cause_as}
use Rattle.acd_sql_statements.proofs.reads.read_meta.Goals as goal

pub returns-in_err-rows : goal.returns-in_err-rows
returns-in_err-rows g c = record {
  found =
      finds_failed c.in_err-rows.ensures.found (search rules);
  cause =
      cause_as (state g.S.Store c.args.conn.now) (state g.S.Store c.meta_rows.new.conn) c.in_err-rows.field-0.0 c.from_residual.result (search rules)
      c.in_err-rows.ensures.cause;
}

pub returns : goal.returns
returns g c = record {
  found =
      let e = c.in_ok-rows.ensures.found in
      finds_meta (state g.S.Store c.args.conn.now) (state g.S.Store c.meta_rows.new.conn) c.in_ok-rows.rows.items c.only_meta.result
      (rw c.deref.ensures.value at c.only_meta.ensures.found) e.up e.quiet e.stops e.answer;
  cause =
      cause_meta (state g.S.Store c.args.conn.now) (state g.S.Store c.meta_rows.new.conn) c.in_ok-rows.rows.items c.in_ok-rows.rows c.only_meta.result
      c.in_ok-rows.ensures.cause (rw c.deref.ensures.value at c.only_meta.ensures.bad) c.in_ok-rows.ensures.found.answer;
}
