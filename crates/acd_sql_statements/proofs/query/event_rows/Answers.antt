use Rattle.std.proofs.Common.{[], ◌∷◌}
use Rattle.sqlite.specs.Held.{state}
use Rattle.acd_sql_columns.specs.Values.{id_value}
use Rattle.acd_sql_columns.specs.Schema.{tables_1, added_in_2, book_schema, BeginsSchema}
use Rattle.acd_sql_columns.proofs.OneTable.Listings.{finds, plain_of}
use Rattle.acd_sql_columns.specs.Tables.{events}
use Rattle.acd_sql_columns.proofs.FileTables.DescribedTable.{paging, shows_page}
use Rattle.acd_sql_columns.proofs.FileTables.TablesDescribed.{events_described, events_pages}
use Rattle.acd_sql_columns.specs.declared.texts.TheConstants.{SELECT_EVENTS_AFTER}
use Rattle.acd_sql_columns.specs.declared.tables.Log.TheVariants as log
use Rattle.acd_sql_columns.proofs.FileTables.QueryResults.{asks_events, sees_page}
use Rattle.acd_sql_statements.proofs.ReadTexts.{events_after_answered, events_after_over}
use Rattle.acd_sql_statements.specs.Looks.{HasGood}
use Rattle.acd_sql_statements.specs.ReadFailures.{RefusesToShow}
use Rattle.acd_sql_statements.proofs.LookCauses.{looks_so}
use Rattle.acd_sql_statements.proofs.query.event_rows.Goals as goal

pub returns-clause-found : goal.returns-clause-found
returns-clause-found g c =
    let e = c.read.ensures in
    finds SELECT_EVENTS_AFTER.now (id_value c.args.number ∷ id_value c.args.limit ∷ []) (state g.S.Store c.args.conn.now) (state g.S.Store c.read.new.conn)
    c.read.result (events_pages.plain added_in_2 book_schema) _
    (record { up = e.up; quiet = e.quiet; stops = e.stops; shown = λ clean. rw (c.integer.ensures, c.integer-2.ensures) at (e.shown clean) })
    (shows_page events events_described SELECT_EVENTS_AFTER.now events_pages c.args.number c.args.limit _ _)

pub returns-clause-seen : goal.returns-clause-seen
returns-clause-seen g c d is =
    sees_page d (state g.S.Store c.args.conn.now) (state g.S.Store c.read.new.conn) c.read.result is log.Events SELECT_EVENTS_AFTER.now
    (paging events events_described SELECT_EVENTS_AFTER.now events_pages c.args.number c.args.limit) c.args.number c.args.limit
    (asks_events c.args.number c.args.limit)
    (rw (c.integer.ensures, c.integer-2.ensures) at
    (c.read.ensures.seen d (plain_of tables_1 SELECT_EVENTS_AFTER.now
    (paging events events_described SELECT_EVENTS_AFTER.now events_pages c.args.number c.args.limit) d.schema is)))

pub returns-clause-cause : goal.returns-clause-cause
returns-clause-cause g c = (rw (c.integer.ensures, c.integer-2.ensures) at c.read.ensures.cause) (events_after_answered c.args.number c.args.limit)

pub returns-clause-looked : goal.returns-clause-looked
returns-clause-looked g c =
    looks_so (HasGood (BeginsSchema tables_1) []) (λ d. ¬ (RefusesToShow d SELECT_EVENTS_AFTER.now (id_value c.args.number ∷ id_value c.args.limit ∷ [])))
    (λ d h. events_after_over c.args.number c.args.limit d h.0) (state g.S.Store c.args.conn.now) (state g.S.Store c.read.new.conn) c.read.result
    (rw (c.integer.ensures, c.integer-2.ensures) at c.read.ensures.looked)
