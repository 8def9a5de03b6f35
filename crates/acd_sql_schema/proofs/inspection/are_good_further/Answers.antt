use Rattle.std.proofs.Common.{Ok, [], rules}
use Rattle.sqlite.specs.Held.{state}
use Rattle.acd_sql_columns.specs.declared.tables.Table.TheVariants as table
use Rattle.acd_sql_columns.specs.AnyRows.{FindsGood}
use Rattle.acd_sql_columns.proofs.FileTables.TableQueries.{finds_good}
use Rattle.acd_sql_statements.specs.ReadsBetween.{IsBookSchema}
use Rattle.acd_sql_statements.specs.Looks.{HasGood}
use Rattle.acd_sql_statements.proofs.LookCauses.{looks_done, looks_as, sees_as}
use Rattle.acd_sql_schema.proofs.inspection.are_good_further.Goals as goal

pub returns-in_err-rows-clause-seen : goal.returns-in_err-rows-clause-seen
returns-in_err-rows-clause-seen g c d is =
    sees_as d (state g.S.Store c.args.conn.now) (state g.S.Store c.further_rows.new.conn) c.in_err-rows.field-0.0 c.from_residual.result (search rules) _
    (λ good. FindsGood table.AgentGroups d.trees good) (c.in_err-rows.ensures.looks.seen d is)

pub returns-clause-seen : goal.returns-clause-seen
returns-clause-seen g c d is =
    finds_good table.AgentGroups d (state g.S.Store c.args.conn.now) (state g.S.Store c.further_rows.new.conn) c.in_ok-rows.rows (Ok c.are_further.result)
    (rw c.deref.ensures.value at c.are_further.ensures) (c.in_ok-rows.ensures.looks.seen d is)

pub returns-in_err-rows-clause-looked : goal.returns-in_err-rows-clause-looked
returns-in_err-rows-clause-looked g c =
    looks_as (HasGood IsBookSchema []) (HasGood IsBookSchema []) (λ d h. h) (state g.S.Store c.args.conn.now) (state g.S.Store c.further_rows.new.conn)
    c.in_err-rows.field-0.0 c.from_residual.result (search rules) c.in_err-rows.ensures.looked

pub returns-clause-looked : goal.returns-clause-looked
returns-clause-looked g c =
    looks_done (HasGood IsBookSchema []) (HasGood IsBookSchema []) (λ d h. h) (state g.S.Store c.args.conn.now) (state g.S.Store c.further_rows.new.conn)
    c.in_ok-rows.rows c.are_further.result c.in_ok-rows.ensures.looked
