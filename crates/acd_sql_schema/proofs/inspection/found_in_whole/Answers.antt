use Rattle.std.proofs.Common.{◌≡◌, Err, rules, subst, sym, [], ◌≢◌}
use Rattle.sqlite.specs.Held.{state}
use Rattle.acd_sql_schema.specs.Inspection.{IsFound, HasCanonical, IsVersionRead}
use Rattle.acd_sql_columns.specs.DatabaseView.{Sees}
use Rattle.acd_sql_columns.proofs.OneTable.Listings.{version_begins}
use Rattle.acd_sql_columns.proofs.FileTables.QueryResults.{nine_begin}
use Rattle.acd_sql_schema.proofs.InspectionReads.{fault_read, other_read, rows_after, IsFoundIn}
use Rattle.acd_sql_columns.proofs.Results.SnapshotReads.{sees_fail}
use Rattle.sqlite.specs.Effect.{Database}
use Rattle.acd_sql_columns.specs.AnyRows.{BeginsAsBook, schema_of}
use Rattle.acd_sql_schema.specs.declared.fault.Found.{Found}
use Rattle.acd_sql_schema.specs.declared.verdict.VersionRead.{VersionRead}
use Rattle.acd_sql_statements.specs.Looks.{HasGood}
use Rattle.acd_sql_statements.proofs.LookCauses.{looks_as, looks_done, looks_then}
use Rattle.acd_sql_schema.specs.Inspection as unlike
use Rattle.acd_sql_schema.proofs.inspection.found_in_whole.Goals as goal

pub returns-in_err-read-clause-seen : goal.returns-in_err-read-clause-seen
returns-in_err-read-clause-seen g c d same =
    let is : c.from_residual.result ≡ Err c.in_err-read.field-0.0 = search rules in
    subst (λ r. Sees d (state g.S.Store c.args.conn.now) (state g.S.Store c.version_read.new.conn) r (λ f. IsFound d f)) (sym is)
    (sees_fail d (state g.S.Store c.args.conn.now) (state g.S.Store c.version_read.new.conn) c.in_err-read.field-0.0 _ (λ f. IsFound d f)
    (c.in_err-read.ensures.seen d (nine_begin d.schema (version_begins c.args.version d.schema same))))

pub returns-in-Faulty-clause-seen : goal.returns-in-Faulty-clause-seen
returns-in-Faulty-clause-seen g c d same =
    fault_read d (state g.S.Store c.args.conn.now) (state g.S.Store c.version_read.new.conn) c.in-Faulty.fault
    (rw c.in-Faulty.is at (c.in_ok-read.ensures.seen d (nine_begin d.schema (version_begins c.args.version d.schema same))))

pub returns-in-Of-clause-seen : goal.returns-in-Of-clause-seen
returns-in-Of-clause-seen g c d same =
    let one : c.in-Of.other ≡ c.args.version = search rules in
    rows_after c.args.version c.in-Of.other d (state g.S.Store c.args.conn.now) (state g.S.Store c.version_read.new.conn)
    (state g.S.Store c.found_in_rows.new.conn) c.found_in_rows.result one
    (rw c.in-Of.is at (c.in_ok-read.ensures.seen d (nine_begin d.schema (version_begins c.args.version d.schema same)))) (c.found_in_rows.ensures.seen d same)

pub returns-in-Of-2-clause-seen : goal.returns-in-Of-2-clause-seen
returns-in-Of-2-clause-seen g c d same =
    let apart : c.in-Of-2.field-0 ≢ c.args.version = search rules in
    other_read d (state g.S.Store c.args.conn.now) (state g.S.Store c.version_read.new.conn) _
    (λ read. unlike.apart c.args.version c.in-Of-2.field-0 same apart read)
    (rw c.in-Of-2.is at (c.in_ok-read.ensures.seen d (nine_begin d.schema (version_begins c.args.version d.schema same))))

pub returns-in_err-read-clause-looked : goal.returns-in_err-read-clause-looked
returns-in_err-read-clause-looked g c =
    let is : c.from_residual.result ≡ Err c.in_err-read.field-0.0 = search rules in
    looks_as (HasCanonical (λ s. s ≡ schema_of c.args.version)) (HasGood BeginsAsBook [])
    (λ d h. (nine_begin d.schema (version_begins c.args.version d.schema h.0), tt)) (state g.S.Store c.args.conn.now)
    (state g.S.Store c.version_read.new.conn) c.in_err-read.field-0.0 c.from_residual.result is c.in_err-read.ensures.looked

pub returns-in-Faulty-clause-looked : goal.returns-in-Faulty-clause-looked
returns-in-Faulty-clause-looked g c =
    looks_done (HasCanonical (λ s. s ≡ schema_of c.args.version)) (HasGood BeginsAsBook [])
    (λ d h. (nine_begin d.schema (version_begins c.args.version d.schema h.0), tt)) (state g.S.Store c.args.conn.now)
    (state g.S.Store c.version_read.new.conn) c.in_ok-read.read _ c.in_ok-read.ensures.looked

pub returns-in-Of-2-clause-looked : goal.returns-in-Of-2-clause-looked
returns-in-Of-2-clause-looked g c =
    looks_done (HasCanonical (λ s. s ≡ schema_of c.args.version)) (HasGood BeginsAsBook [])
    (λ d h. (nine_begin d.schema (version_begins c.args.version d.schema h.0), tt)) (state g.S.Store c.args.conn.now)
    (state g.S.Store c.version_read.new.conn) c.in_ok-read.read _ c.in_ok-read.ensures.looked

pub returns-in-Of-clause-looked : goal.returns-in-Of-clause-looked
returns-in-Of-clause-looked g c =
    looks_then (HasCanonical (λ s. s ≡ schema_of c.args.version)) (HasGood BeginsAsBook []) (HasCanonical (λ s. s ≡ schema_of c.args.version))
    (λ (d : Database) (t : VersionRead). IsVersionRead d t) (λ (d : Database) (f : Found). IsFoundIn c.args.version d f) (state g.S.Store c.args.conn.now)
    (state g.S.Store c.version_read.new.conn) (state g.S.Store c.found_in_rows.new.conn) c.in_ok-read.read c.found_in_rows.result
    (λ d h. (nine_begin d.schema (version_begins c.args.version d.schema h.0), tt))
    c.in_ok-read.ensures.looked (λ d h. c.in_ok-read.ensures.seen d (nine_begin d.schema (version_begins c.args.version d.schema h.0))) (λ d h p. h)
    (λ d h. c.found_in_rows.ensures.seen d h.0) c.found_in_rows.ensures.looked
