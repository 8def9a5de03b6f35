use Rattle.std.proofs.Common.{◌≡◌, Err, rules, subst, sym, Option, None}
use Rattle.sqlite.specs.Held.{state}
use Rattle.acd_sql_schema.specs.Inspection.{IsRowFound, HasCanonical, HasGoodTables, IsBadOf, IsPlaceFound, tables_of}
use Rattle.acd_sql_columns.specs.DatabaseView.{Sees}
use Rattle.acd_sql_schema.proofs.InspectionReads.{bad_found, place_after, covered, each_good}
use Rattle.acd_sql_columns.proofs.Results.SnapshotReads.{sees_fail}
use Rattle.sqlite.specs.Effect.{Database}
use Rattle.acd_terms.specs.Lists.{Every}
use Rattle.acd_sql_columns.specs.declared.tables.Table.{Table}
use Rattle.acd_sql_columns.specs.AnyRows.{schema_of, Covers}
use Rattle.acd_sql_schema.specs.declared.fault.AdoptFault.{AdoptFault}
use Rattle.acd_sql_statements.proofs.LookCauses.{looks_as, looks_done, looks_then}
use Rattle.acd_sql_schema.proofs.inspection.bad_row.Goals as goal

pub returns-in_err-bad-clause-seen : goal.returns-in_err-bad-clause-seen
returns-in_err-bad-clause-seen g c d same =
    let is : c.from_residual.result ≡ Err c.in_err-bad.field-0.0 = search rules in
    subst (λ r. Sees d (state g.S.Store c.args.conn.now) (state g.S.Store c.bad_table.new.conn) r (λ f. IsRowFound c.args.version d f)) (sym is)
    (sees_fail d (state g.S.Store c.args.conn.now) (state g.S.Store c.bad_table.new.conn) c.in_err-bad.field-0.0 _ (λ f. IsRowFound c.args.version d f)
    ((rw c.tables_of.ensures at c.in_err-bad.ensures.seen) d (covered c.args.version d.schema same)))

pub returns-in-Some-clause-seen : goal.returns-in-Some-clause-seen
returns-in-Some-clause-seen g c d is =
    bad_found c.args.version d (state g.S.Store c.args.conn.now) (state g.S.Store c.bad_table.new.conn) c.in-Some.table
    (rw c.in-Some.is at ((rw c.tables_of.ensures at c.in_ok-bad.ensures.seen) d (covered c.args.version d.schema is)))

pub returns-clause-seen : goal.returns-clause-seen
returns-clause-seen g c d is =
    place_after c.args.version d (state g.S.Store c.args.conn.now) (state g.S.Store c.bad_table.new.conn) (state g.S.Store c.misplaced.new.conn)
    c.misplaced.result
    (rw c.in-None.is at ((rw c.tables_of.ensures at c.in_ok-bad.ensures.seen) d (covered c.args.version d.schema is))) (c.misplaced.ensures.seen d is)

pub returns-in_err-bad-clause-looked : goal.returns-in_err-bad-clause-looked
returns-in_err-bad-clause-looked g c =
    let is : c.from_residual.result ≡ Err c.in_err-bad.field-0.0 = search rules in
    looks_as (HasCanonical (λ s. s ≡ schema_of c.args.version)) (HasCanonical (λ s. Every (Covers s) (tables_of c.args.version)))
    (λ d h. (covered c.args.version d.schema h.0, h.1)) (state g.S.Store c.args.conn.now) (state g.S.Store c.bad_table.new.conn) c.in_err-bad.field-0.0
    c.from_residual.result is (rw c.tables_of.ensures at c.in_err-bad.ensures.looked)

pub returns-in-Some-clause-looked : goal.returns-in-Some-clause-looked
returns-in-Some-clause-looked g c =
    looks_done (HasCanonical (λ s. s ≡ schema_of c.args.version)) (HasCanonical (λ s. Every (Covers s) (tables_of c.args.version)))
    (λ d h. (covered c.args.version d.schema h.0, h.1)) (state g.S.Store c.args.conn.now) (state g.S.Store c.bad_table.new.conn) c.in_ok-bad.bad _
    (rw c.tables_of.ensures at c.in_ok-bad.ensures.looked)

pub returns-clause-looked : goal.returns-clause-looked
returns-clause-looked g c =
    looks_then (HasCanonical (λ s. s ≡ schema_of c.args.version)) (HasCanonical (λ s. Every (Covers s) (tables_of c.args.version)))
    (HasGoodTables c.args.version) (λ (d : Database) (bad : Option Table). IsBadOf (tables_of c.args.version) d bad)
    (λ (d : Database) (f : Option AdoptFault). IsPlaceFound c.args.version d f)
    (state g.S.Store c.args.conn.now) (state g.S.Store c.bad_table.new.conn) (state g.S.Store c.misplaced.new.conn) None c.misplaced.result
    (λ d h. (covered c.args.version d.schema h.0, h.1)) (rw c.in-None.is at (rw c.tables_of.ensures at c.in_ok-bad.ensures.looked))
    (λ d h. rw c.in-None.is at ((rw c.tables_of.ensures at c.in_ok-bad.ensures.seen) d (covered c.args.version d.schema h.0)))
    (λ d h p. (h.0, each_good c.args.version d.trees (p h.1))) (λ d h. c.misplaced.ensures.seen d h.0) c.misplaced.ensures.looked
