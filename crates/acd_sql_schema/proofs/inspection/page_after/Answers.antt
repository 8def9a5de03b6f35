use Rattle.sqlite.specs.Held.{state}
use Rattle.acd_sql_schema.specs.Inspection.{IsPageOfLog, IsPaged}
use Rattle.acd_sql_schema.proofs.InspectionReads.{page_found}
use Rattle.std.proofs.Common.{[], rules}
use Rattle.acd_sql_columns.specs.Schema.{tables_1, BeginsSchema}
use Rattle.acd_sql_schema.proofs.LogPages.{page_fails}
use Rattle.acd_sql_statements.specs.Looks.{HasGood}
use Rattle.acd_sql_statements.proofs.LookCauses.{looks_on, looks_as, sees_as}
use Rattle.acd_sql_schema.proofs.inspection.page_after.Goals as goal

pub returns-in_err-rows-clause-seen : goal.returns-in_err-rows-clause-seen
returns-in_err-rows-clause-seen g c d is =
    sees_as d (state g.S.Store c.args.conn.now) (state g.S.Store c.rows_above.new.conn) c.in_err-rows.field-0.0 c.from_residual.result (search rules) _
    (λ page. IsPageOfLog c.args.log c.args.number d.trees page) (c.in_err-rows.ensures.looks.seen d is)

pub returns-clause-seen : goal.returns-clause-seen
returns-clause-seen g c d is =
    page_found d (state g.S.Store c.args.conn.now) (state g.S.Store c.rows_above.new.conn) c.args.log c.args.number c.in_ok-rows.rows c.page_of.result
    (rw c.deref.ensures.value at c.page_of.ensures.finds) (c.in_ok-rows.ensures.looks.seen d is)

pub returns-in_err-rows-clause-looked : goal.returns-in_err-rows-clause-looked
returns-in_err-rows-clause-looked g c =
    looks_as (IsPaged c.args.log) (HasGood (BeginsSchema tables_1) []) (λ d h. (h.0, tt)) (state g.S.Store c.args.conn.now) (state g.S.Store c.rows_above.new.conn)
    c.in_err-rows.field-0.0 c.from_residual.result (search rules) c.in_err-rows.ensures.looked

pub returns-clause-looked : goal.returns-clause-looked
returns-clause-looked g c =
    looks_on (IsPaged c.args.log) (HasGood (BeginsSchema tables_1) []) (λ d h. (h.0, tt)) (state g.S.Store c.args.conn.now) (state g.S.Store c.rows_above.new.conn)
    c.in_ok-rows.rows c.page_of.result c.in_ok-rows.ensures.looked
    (λ k d old_database it. page_fails c.args.log c.args.number d c.in_ok-rows.rows.items (state g.S.Store c.args.conn.now)
    (state g.S.Store c.rows_above.new.conn) c.page_of.result ((c.in_ok-rows.ensures.looks.seen d it.0).answer k old_database) it.1
    (rw c.deref.ensures.value at c.page_of.ensures.lacks))
