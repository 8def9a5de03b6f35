use Rattle.std.proofs.Common.{[], rules}
use Rattle.acd_sql_columns.specs.AnyRows.{BeginsAsBook}
use Rattle.sqlite.specs.Held.{state}
use Rattle.acd_sql_schema.specs.Inspection.{IsFound, none}
use Rattle.acd_sql_schema.proofs.InspectionReads.{fault_read, other_read}
use Rattle.acd_sql_statements.specs.Looks.{HasGood}
use Rattle.acd_sql_statements.proofs.LookCauses.{looks_done, looks_as, sees_as}
use Rattle.acd_sql_schema.proofs.inspection.found_in_first.Goals as goal

pub returns-in_err-fault-clause-seen : goal.returns-in_err-fault-clause-seen
returns-in_err-fault-clause-seen g c d first =
    sees_as d (state g.S.Store c.args.conn.now) (state g.S.Store c.version_read.new.conn) c.in_err-fault.field-0.0 c.from_residual.result (search rules) _
    (λ f. IsFound d f) (c.in_err-fault.ensures.seen d first.0)

pub returns-in-Faulty-clause-seen : goal.returns-in-Faulty-clause-seen
returns-in-Faulty-clause-seen g c d first =
    fault_read d (state g.S.Store c.args.conn.now) (state g.S.Store c.version_read.new.conn) c.in-Faulty.fault
    (rw c.in-Faulty.is at (c.in_ok-fault.ensures.seen d first.0))

pub returns-in-Of-clause-seen : goal.returns-in-Of-clause-seen
returns-in-Of-clause-seen g c d first =
    other_read d (state g.S.Store c.args.conn.now) (state g.S.Store c.version_read.new.conn) _ (λ read. none _ read first.0 first.1)
    (rw c.in-Of.is at (c.in_ok-fault.ensures.seen d first.0))

pub returns-in_err-fault-clause-looked : goal.returns-in_err-fault-clause-looked
returns-in_err-fault-clause-looked g c =
    looks_as (HasGood BeginsAsBook []) (HasGood BeginsAsBook []) (λ d h. h) (state g.S.Store c.args.conn.now) (state g.S.Store c.version_read.new.conn)
    c.in_err-fault.field-0.0 c.from_residual.result (search rules) c.in_err-fault.ensures.looked

pub returns-in-Faulty-clause-looked : goal.returns-in-Faulty-clause-looked
returns-in-Faulty-clause-looked g c =
    looks_done (HasGood BeginsAsBook []) (HasGood BeginsAsBook []) (λ d h. h) (state g.S.Store c.args.conn.now) (state g.S.Store c.version_read.new.conn)
    c.in_ok-fault.field-0 _ c.in_ok-fault.ensures.looked

pub returns-in-Of-clause-looked : goal.returns-in-Of-clause-looked
returns-in-Of-clause-looked g c =
    looks_done (HasGood BeginsAsBook []) (HasGood BeginsAsBook []) (λ d h. h) (state g.S.Store c.args.conn.now) (state g.S.Store c.version_read.new.conn)
    c.in_ok-fault.field-0 _ c.in_ok-fault.ensures.looked
