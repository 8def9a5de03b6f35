use Rattle.std.proofs.Common.{◌≡◌, None, subst, sym}
use Rattle.sqlite.specs.Held.{state}
use Rattle.acd_sql_columns.specs.AnyRows.{schema_of}
use Rattle.acd_sql_columns.specs.DatabaseView.{Sees}
use Rattle.acd_sql_columns.proofs.Results.SnapshotReads.{sees_here}
use Rattle.acd_sql_schema.specs.Inspection.{IsPlaceFound, HasGoodTables}
use Rattle.acd_sql_statements.proofs.LookCauses.{looks_so, looks_still}
use Rattle.acd_sql_columns.specs.declared.tables.Version.TheVariants as version
use Rattle.acd_sql_schema.proofs.inspection.misplaced.Goals as goal

pub returns-in-First-clause-seen : goal.returns-in-First-clause-seen
returns-in-First-clause-seen g c d is =
    sees_here d (state g.S.Store c.args.conn.now) None (λ f. IsPlaceFound c.args.version d f)
    (λ old_database. subst (λ v. IsPlaceFound v d None) (sym c.in-First.is) tt)

pub returns-in-Second-clause-seen : goal.returns-in-Second-clause-seen
returns-in-Second-clause-seen g c d is =
    subst (λ v. Sees d (state g.S.Store c.args.conn.now) (state g.S.Store c.found_misplaced.new.conn) c.found_misplaced.result (λ f. IsPlaceFound v d f))
    (sym c.in-Second.is)
    (c.found_misplaced.ensures.seen d (subst (λ v. d.schema ≡ schema_of v) c.in-Second.is is))

pub returns-in-First-clause-looked : goal.returns-in-First-clause-looked
returns-in-First-clause-looked g c = looks_still (HasGoodTables c.args.version) (state g.S.Store c.args.conn.now) None

pub returns-in-Second-clause-looked : goal.returns-in-Second-clause-looked
returns-in-Second-clause-looked g c =
    looks_so (HasGoodTables c.args.version) (HasGoodTables version.Second) (λ d h. subst (λ v. HasGoodTables v d) c.in-Second.is h)
    (state g.S.Store c.args.conn.now) (state g.S.Store c.found_misplaced.new.conn) c.found_misplaced.result c.found_misplaced.ensures.looked
