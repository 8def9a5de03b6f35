use Rattle.std.proofs.Common.{[]}
use Rattle.sqlite.specs.Held.{state}
use Rattle.acd_sql_columns.specs.declared.tables.Log.TheVariants as log
use Rattle.acd_sql_columns.proofs.FileTables.QueryResults.{low_kept, asks_low_kept, sees_low}
use Rattle.acd_sql_columns.specs.Schema.{tables_1, BeginsSchema}
use Rattle.acd_sql_columns.proofs.OneTable.Listings.{plain_of}
use Rattle.acd_sql_columns.specs.declared.texts.TheConstants.{SELECT_LOW_KEPT}
use Rattle.acd_sql_statements.specs.Looks.{HasGood}
use Rattle.acd_sql_statements.specs.ReadFailures.{RefusesToShow}
use Rattle.acd_sql_statements.proofs.ReadTexts.{low_kept_over}
use Rattle.acd_sql_statements.proofs.LookCauses.{looks_so}
use Rattle.acd_sql_statements.proofs.look.low_kept_rows.Goals as goal

pub returns-clause-looks : goal.returns-clause-looks
returns-clause-looks g c = record {
  seen =
      λ d is. sees_low d (state g.S.Store c.args.conn.now) (state g.S.Store c.read.new.conn) c.read.result is log.Kept SELECT_LOW_KEPT.now low_kept
      asks_low_kept (c.read.ensures.seen d (plain_of tables_1 SELECT_LOW_KEPT.now low_kept d.schema is));
}

pub returns-clause-looked : goal.returns-clause-looked
returns-clause-looked g c =
    looks_so (HasGood (BeginsSchema tables_1) []) (λ d. ¬ (RefusesToShow d SELECT_LOW_KEPT.now [])) (λ d h. low_kept_over d h.0) (state g.S.Store c.args.conn.now)
    (state g.S.Store c.read.new.conn) c.read.result c.read.ensures.looked
