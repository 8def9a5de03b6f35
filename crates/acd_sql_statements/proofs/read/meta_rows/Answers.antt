use Rattle.sqlite.specs.Held.{state}
use Rattle.acd_sql_columns.proofs.OneTable.Selections.{meta_plain, reads_meta_if}
use Rattle.acd_sql_columns.proofs.FileTables.QueryResults.{sees_meta}
use Rattle.std.proofs.Common.{[], refl}
use Rattle.acd_sql_columns.specs.Schema.{book_schema, tables_1, BeginsSchema}
use Rattle.acd_sql_columns.specs.declared.texts.TheConstants.{SELECT_META}
use Rattle.acd_sql_columns.proofs.OneTable.Listings.{book_begins}
use Rattle.acd_sql_statements.proofs.ReadTexts.{counters_answered, counters_over}
use Rattle.acd_sql_statements.specs.Looks.{HasGood}
use Rattle.acd_sql_statements.specs.ReadFailures.{RefusesToShow}
use Rattle.acd_sql_statements.proofs.LookCauses.{looks_so}
use Rattle.acd_sql_statements.proofs.read.meta_rows.Goals as goal

pub returns-clause-found : goal.returns-clause-found
returns-clause-found g c =
    let e = c.read.ensures in
    let plain = meta_plain book_schema (book_begins book_schema refl) in
    record {
      up = e.up;
      quiet = e.quiet plain;
      stops = λ clean x held. e.stops clean plain x held;
      answer = λ clean. reads_meta_if (state g.S.Store c.args.conn.now) (state g.S.Store c.read.new.conn) c.read.result (e.shown clean);
    }

pub returns-clause-seen : goal.returns-clause-seen
returns-clause-seen g c d is =
    sees_meta d (state g.S.Store c.args.conn.now) (state g.S.Store c.read.new.conn) c.read.result is (c.read.ensures.seen d (meta_plain d.schema is))

pub returns-clause-cause : goal.returns-clause-cause
returns-clause-cause g c = c.read.ensures.cause counters_answered

pub returns-clause-looked : goal.returns-clause-looked
returns-clause-looked g c =
    looks_so (HasGood (BeginsSchema tables_1) []) (λ d. ¬ (RefusesToShow d SELECT_META.now [])) (λ d h. counters_over d h.0) (state g.S.Store c.args.conn.now)
    (state g.S.Store c.read.new.conn) c.read.result c.read.ensures.looked
