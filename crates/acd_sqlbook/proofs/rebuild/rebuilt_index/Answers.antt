use Rattle.std.proofs.Common.{rules}
use Rattle.sqlite.specs.Held.{state}
use Rattle.acd_sql_statements.proofs.ReadCauses.{cause_as, cause_after}
use Rattle.acd_sqlbook.specs.declared.index.Index.{Index}
use Rattle.acd_sqlbook.proofs.IndexRebuild.{begins, begins_never}
use Rattle.acd_sqlbook.proofs.rebuild.rebuilt_index.Goals as goal

pub returns-in_err-rows-clause-found : goal.returns-in_err-rows-clause-found
returns-in_err-rows-clause-found g c =
    begins_never (state g.S.Store c.args.conn.now) (state g.S.Store c.rows.new.conn) c.in_err-rows.field-0.0 c.from_residual.result (search rules)
    c.in_err-rows.ensures.found

pub returns-clause-found : goal.returns-clause-found
returns-clause-found g c =
    let index : Index = record { watched = c.of_monitors-watched.result; last = c.earliest-last.result } in
    begins (state g.S.Store c.args.conn.now) (state g.S.Store c.rows.new.conn) (state g.S.Store c.index_all.new.conn) c.in_ok-rows.rows index
    c.index_all.result c.of_monitors-watched.ensures.lists c.in_ok-rows.ensures.found c.index_all.ensures.found

pub returns-in_err-rows-clause-cause : goal.returns-in_err-rows-clause-cause
returns-in_err-rows-clause-cause g c =
    cause_as (state g.S.Store c.args.conn.now) (state g.S.Store c.rows.new.conn) c.in_err-rows.field-0.0 c.from_residual.result (search rules)
    c.in_err-rows.ensures.cause

pub returns-clause-cause : goal.returns-clause-cause
returns-clause-cause g c =
    let is_open = c.in_ok-rows.ensures.found.up in
    cause_after (state g.S.Store c.args.conn.now) (state g.S.Store c.rows.new.conn) (state g.S.Store c.index_all.new.conn) c.in_ok-rows.rows
    c.index_all.result c.in_ok-rows.ensures.cause c.in_ok-rows.ensures.found.quiet is_open (c.index_all.ensures.found is_open).quiet.clean
    (c.index_all.ensures.cause is_open)
