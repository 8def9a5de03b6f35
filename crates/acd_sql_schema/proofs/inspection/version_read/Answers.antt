use Rattle.std.proofs.Common.{[], rules}
use Rattle.acd_sql_columns.specs.AnyRows.{BeginsAsBook}
use Rattle.sqlite.specs.Held.{state}
use Rattle.acd_sql_schema.specs.Inspection.{IsVersionRead}
use Rattle.acd_sql_schema.proofs.InspectionReads.{version_read}
use Rattle.acd_sql_statements.specs.Looks.{HasGood}
use Rattle.acd_sql_statements.proofs.LookCauses.{looks_done, looks_as, sees_as}
use Rattle.acd_sql_schema.proofs.inspection.version_read.Goals as goal

pub returns-in_err-rows-clause-seen : goal.returns-in_err-rows-clause-seen
returns-in_err-rows-clause-seen g c d begins =
    sees_as d (state g.S.Store c.args.conn.now) (state g.S.Store c.version_rows.new.conn) c.in_err-rows.field-0.0 c.from_residual.result (search rules) _
    (λ t. IsVersionRead d t) (c.in_err-rows.ensures.looks.seen d begins)

pub returns-clause-seen : goal.returns-clause-seen
returns-clause-seen g c d begins =
    version_read d (state g.S.Store c.args.conn.now) (state g.S.Store c.version_rows.new.conn) c.in_ok-rows.rows c.version_read_in.result begins
    (rw c.deref.ensures.value at c.version_read_in.ensures) (c.in_ok-rows.ensures.looks.seen d begins)

pub returns-in_err-rows-clause-looked : goal.returns-in_err-rows-clause-looked
returns-in_err-rows-clause-looked g c =
    looks_as (HasGood BeginsAsBook []) (HasGood BeginsAsBook []) (λ d h. h) (state g.S.Store c.args.conn.now) (state g.S.Store c.version_rows.new.conn)
    c.in_err-rows.field-0.0 c.from_residual.result (search rules) c.in_err-rows.ensures.looked

pub returns-clause-looked : goal.returns-clause-looked
returns-clause-looked g c =
    looks_done (HasGood BeginsAsBook []) (HasGood BeginsAsBook []) (λ d h. h) (state g.S.Store c.args.conn.now) (state g.S.Store c.version_rows.new.conn)
    c.in_ok-rows.rows c.version_read_in.result c.in_ok-rows.ensures.looked
