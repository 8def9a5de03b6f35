use Rattle.std.proofs.Common.{[], Ok, rules}
use Rattle.sqlite.specs.Held.{state}
use Rattle.acd_sql_columns.specs.AnyRows.{FindsGood}
use Rattle.acd_sql_columns.proofs.FileTables.TableQueries.{finds_good_read}
use Rattle.acd_sql_columns.specs.Schema.{BeginsSchema}
use Rattle.acd_sql_statements.specs.Looks.{HasGood}
use Rattle.acd_sql_statements.proofs.LookCauses.{looks_done, looks_as, sees_as}
use Rattle.acd_sql_statements.proofs.select.is_good.Goals as goal

pub returns-in_err-rows-clause-looks : goal.returns-in_err-rows-clause-looks
returns-in_err-rows-clause-looks g c = record {
  seen = λ d is.
      sees_as d (state g.S.Store c.args.conn.now) (state g.S.Store c.rows.new.conn) c.in_err-rows.field-0.0 c.from_residual.result (search rules) _
      (λ good. FindsGood g.R.Stored.descr.table d.trees good) (c.in_err-rows.ensures.seen d is);
}

pub returns-clause-looks : goal.returns-clause-looks
returns-clause-looks g c = record {
  seen = λ d is.
      finds_good_read g.R.Stored.descr g.met.R.Stored.described d (state g.S.Store c.args.conn.now) (state g.S.Store c.rows.new.conn) c.in_ok-rows.rows
      (Ok c.are_read.result) (rw c.deref.ensures.value at c.are_read.ensures) (c.in_ok-rows.ensures.seen d is);
}

pub returns-in_err-rows-clause-looked : goal.returns-in_err-rows-clause-looked
returns-in_err-rows-clause-looked g c answers =
    looks_as (HasGood (BeginsSchema g.R.Stored.descr.base) []) (HasGood (BeginsSchema g.R.Stored.descr.base) []) (λ d h. h) (state g.S.Store c.args.conn.now)
    (state g.S.Store c.rows.new.conn) c.in_err-rows.field-0.0 c.from_residual.result (search rules) (c.in_err-rows.ensures.looked answers)

pub returns-clause-looked : goal.returns-clause-looked
returns-clause-looked g c answers =
    looks_done (HasGood (BeginsSchema g.R.Stored.descr.base) []) (HasGood (BeginsSchema g.R.Stored.descr.base) []) (λ d h. h) (state g.S.Store c.args.conn.now)
    (state g.S.Store c.rows.new.conn) c.in_ok-rows.rows c.are_read.result (c.in_ok-rows.ensures.looked answers)
