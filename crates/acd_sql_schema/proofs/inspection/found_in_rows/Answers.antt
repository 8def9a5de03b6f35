use Rattle.std.proofs.Common.{◌≡◌, rules}
use Rattle.acd_sql_columns.specs.AnyRows.{schema_of}
use Rattle.sqlite.specs.Held.{state}
use Rattle.acd_sql_schema.proofs.InspectionReads.{row_fault, rows_good, IsFoundIn}
use Rattle.acd_sql_schema.specs.Inspection.{HasCanonical}
use Rattle.acd_sql_statements.proofs.LookCauses.{looks_done, looks_as, sees_as}
use Rattle.acd_sql_schema.proofs.inspection.found_in_rows.Goals as goal

pub returns-in_err-fault-clause-seen : goal.returns-in_err-fault-clause-seen
returns-in_err-fault-clause-seen g c d is =
    sees_as d (state g.S.Store c.args.conn.now) (state g.S.Store c.bad_row.new.conn) c.in_err-fault.field-0.0 c.from_residual.result (search rules) _
    (λ f. IsFoundIn c.args.version d f) (c.in_err-fault.ensures.seen d is)

pub returns-in-Some-clause-seen : goal.returns-in-Some-clause-seen
returns-in-Some-clause-seen g c d is =
    row_fault c.args.version d (state g.S.Store c.args.conn.now) (state g.S.Store c.bad_row.new.conn) c.in-Some.fault
    (rw c.in-Some.is at (c.in_ok-fault.ensures.seen d is))

pub returns-in-None-clause-seen : goal.returns-in-None-clause-seen
returns-in-None-clause-seen g c d is =
    rows_good c.args.version d (state g.S.Store c.args.conn.now) (state g.S.Store c.bad_row.new.conn) is (rw c.in-None.is at (c.in_ok-fault.ensures.seen d is))

pub returns-in_err-fault-clause-looked : goal.returns-in_err-fault-clause-looked
returns-in_err-fault-clause-looked g c =
    looks_as (HasCanonical (λ s. s ≡ schema_of c.args.version)) (HasCanonical (λ s. s ≡ schema_of c.args.version)) (λ d h. h) (state g.S.Store c.args.conn.now)
    (state g.S.Store c.bad_row.new.conn) c.in_err-fault.field-0.0 c.from_residual.result (search rules) c.in_err-fault.ensures.looked

pub returns-in-Some-clause-looked : goal.returns-in-Some-clause-looked
returns-in-Some-clause-looked g c =
    looks_done (HasCanonical (λ s. s ≡ schema_of c.args.version)) (HasCanonical (λ s. s ≡ schema_of c.args.version)) (λ d h. h)
    (state g.S.Store c.args.conn.now) (state g.S.Store c.bad_row.new.conn) c.in_ok-fault.field-0 _ c.in_ok-fault.ensures.looked

pub returns-in-None-clause-looked : goal.returns-in-None-clause-looked
returns-in-None-clause-looked g c =
    looks_done (HasCanonical (λ s. s ≡ schema_of c.args.version)) (HasCanonical (λ s. s ≡ schema_of c.args.version)) (λ d h. h)
    (state g.S.Store c.args.conn.now) (state g.S.Store c.bad_row.new.conn) c.in_ok-fault.field-0 _ c.in_ok-fault.ensures.looked
