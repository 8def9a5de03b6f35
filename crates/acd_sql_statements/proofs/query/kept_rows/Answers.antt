use Rattle.std.proofs.Common.{[], ◌∷◌}
use Rattle.sqlite.specs.Held.{state}
use Rattle.acd_sql_columns.specs.Values.{id_value}
use Rattle.acd_sql_columns.specs.Schema.{tables_1, added_in_2, book_schema, BeginsSchema}
use Rattle.acd_sql_columns.proofs.OneTable.Listings.{finds, plain_of}
use Rattle.acd_sql_columns.specs.Tables.{kept}
use Rattle.acd_sql_columns.proofs.FileTables.DescribedTable.{paging, shows_page}
use Rattle.acd_sql_columns.proofs.FileTables.TablesDescribed.{kept_described, kept_pages}
use Rattle.acd_sql_columns.specs.declared.texts.TheConstants.{SELECT_KEPT_AFTER}
use Rattle.acd_sql_columns.specs.declared.tables.Log.TheVariants as log
use Rattle.acd_sql_columns.proofs.FileTables.QueryResults.{asks_kept, sees_page}
use Rattle.acd_sql_statements.proofs.ReadTexts.{kept_after_answered, kept_after_over}
use Rattle.acd_sql_statements.specs.Looks.{HasGood}
use Rattle.acd_sql_statements.specs.ReadFailures.{RefusesToShow}
use Rattle.acd_sql_statements.proofs.LookCauses.{looks_so}
use Rattle.acd_sql_statements.proofs.query.kept_rows.Goals as goal

pub returns-clause-found : goal.returns-clause-found
returns-clause-found g c =
    let e = c.read.ensures in
    finds SELECT_KEPT_AFTER.now (id_value c.args.stamp ∷ id_value c.args.limit ∷ []) (state g.S.Store c.args.conn.now) (state g.S.Store c.read.new.conn)
    c.read.result (kept_pages.plain added_in_2 book_schema) _
    (record { up = e.up; quiet = e.quiet; stops = e.stops; shown = λ clean. rw (c.integer.ensures, c.integer-2.ensures) at (e.shown clean) })
    (shows_page kept kept_described SELECT_KEPT_AFTER.now kept_pages c.args.stamp c.args.limit _ _)

pub returns-clause-seen : goal.returns-clause-seen
returns-clause-seen g c d is =
    sees_page d (state g.S.Store c.args.conn.now) (state g.S.Store c.read.new.conn) c.read.result is log.Kept SELECT_KEPT_AFTER.now
    (paging kept kept_described SELECT_KEPT_AFTER.now kept_pages c.args.stamp c.args.limit) c.args.stamp c.args.limit (asks_kept c.args.stamp c.args.limit)
    (rw (c.integer.ensures, c.integer-2.ensures) at
    (c.read.ensures.seen d
    (plain_of tables_1 SELECT_KEPT_AFTER.now (paging kept kept_described SELECT_KEPT_AFTER.now kept_pages c.args.stamp c.args.limit) d.schema is)))

pub returns-clause-cause : goal.returns-clause-cause
returns-clause-cause g c = (rw (c.integer.ensures, c.integer-2.ensures) at c.read.ensures.cause) (kept_after_answered c.args.stamp c.args.limit)

pub returns-clause-looked : goal.returns-clause-looked
returns-clause-looked g c =
    looks_so (HasGood (BeginsSchema tables_1) []) (λ d. ¬ (RefusesToShow d SELECT_KEPT_AFTER.now (id_value c.args.stamp ∷ id_value c.args.limit ∷ [])))
    (λ d h. kept_after_over c.args.stamp c.args.limit d h.0) (state g.S.Store c.args.conn.now) (state g.S.Store c.read.new.conn) c.read.result
    (rw (c.integer.ensures, c.integer-2.ensures) at c.read.ensures.looked)
