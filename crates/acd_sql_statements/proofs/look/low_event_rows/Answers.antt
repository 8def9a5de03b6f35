use Rattle.std.proofs.Common.{[]}
use Rattle.sqlite.specs.Held.{state}
use Rattle.acd_sql_columns.specs.declared.tables.Log.TheVariants as log
use Rattle.acd_sql_columns.proofs.FileTables.QueryResults.{low_events, asks_low_events, sees_low}
use Rattle.acd_sql_columns.specs.Schema.{tables_1, BeginsSchema}
use Rattle.acd_sql_columns.proofs.OneTable.Listings.{plain_of}
use Rattle.acd_sql_columns.specs.declared.texts.TheConstants.{SELECT_LOW_EVENT}
use Rattle.acd_sql_statements.specs.Looks.{HasGood}
use Rattle.acd_sql_statements.specs.ReadFailures.{RefusesToShow}
use Rattle.acd_sql_statements.proofs.ReadTexts.{low_events_over}
use Rattle.acd_sql_statements.proofs.LookCauses.{looks_so}
use Rattle.acd_sql_statements.proofs.look.low_event_rows.Goals as goal

pub returns-clause-looks : goal.returns-clause-looks
returns-clause-looks g c = record {
  seen =
      λ d is. sees_low d (state g.S.Store c.args.conn.now) (state g.S.Store c.read.new.conn) c.read.result is log.Events SELECT_LOW_EVENT.now low_events
      asks_low_events (c.read.ensures.seen d (plain_of tables_1 SELECT_LOW_EVENT.now low_events d.schema is));
}

pub returns-clause-looked : goal.returns-clause-looked
returns-clause-looked g c =
    looks_so (HasGood (BeginsSchema tables_1) []) (λ d. ¬ (RefusesToShow d SELECT_LOW_EVENT.now [])) (λ d h. low_events_over d h.0)
    (state g.S.Store c.args.conn.now) (state g.S.Store c.read.new.conn) c.read.result c.read.ensures.looked
