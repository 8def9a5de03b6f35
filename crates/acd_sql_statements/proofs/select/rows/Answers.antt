use Rattle.sqlite.specs.Held.{state}
use Rattle.acd_sql_columns.proofs.FileTables.TableQueries.{rows_found, rows_seen}
use Rattle.std.proofs.Common.{[], sym, subst}
use Rattle.acd_sql_columns.specs.Descriptions.{the_text}
use Rattle.acd_sql_statements.proofs.TheTexts.{the_said}
use Rattle.acd_sql_columns.proofs.FileTables.DescribedTable.{Selects}
use Rattle.acd_sql_columns.specs.Schema.{BeginsSchema}
use Rattle.acd_sql_statements.specs.ReadFailures.{IsAnswered, RefusesToShow}
use Rattle.acd_sql_statements.specs.Looks.{HasGood}
use Rattle.acd_sql_statements.proofs.LookCauses.{looks_so}
use Rattle.acd_sql_statements.proofs.select.rows.Goals as goal

pub returns-clause-found : goal.returns-clause-found
returns-clause-found g c =
    let e = c.read.ensures in
    rows_found g.R.Stored.descr g.met.R.Stored.described g.R.Stored.descr.base (the_text g.R.Stored.descr.select)
    (the_said g.R.Stored.descr.select (Selects g.R.Stored.descr g.R.Stored.descr.base) c.requires.selects g.met.R.Stored.described.selects)
    c.select_text.result.now c.select_text.ensures (state g.S.Store c.args.conn.now) (state g.S.Store c.read.new.conn) c.read.result
    (record { up = e.up; quiet = e.quiet; stops = e.stops; shown = e.shown })

pub returns-clause-seen : goal.returns-clause-seen
returns-clause-seen g c d is =
    rows_seen g.R.Stored.descr g.met.R.Stored.described g.R.Stored.descr.base (the_text g.R.Stored.descr.select)
    (the_said g.R.Stored.descr.select (Selects g.R.Stored.descr g.R.Stored.descr.base) c.requires.selects g.met.R.Stored.described.selects)
    c.select_text.result.now c.select_text.ensures (state g.S.Store c.args.conn.now) (state g.S.Store c.read.new.conn) c.read.result d is
    (c.read.ensures.seen d)

pub returns-clause-cause : goal.returns-clause-cause
returns-clause-cause g c answers = c.read.ensures.cause (subst (λ t. IsAnswered t []) (sym c.select_text.ensures) answers)

pub returns-clause-looked : goal.returns-clause-looked
returns-clause-looked g c answers =
    looks_so (HasGood (BeginsSchema g.R.Stored.descr.base) []) (λ d. ¬ (RefusesToShow d c.select_text.result.now []))
    (λ d h. subst (λ t. ¬ (RefusesToShow d t [])) (sym c.select_text.ensures) (answers d h.0))
    (state g.S.Store c.args.conn.now) (state g.S.Store c.read.new.conn) c.read.result c.read.ensures.looked
