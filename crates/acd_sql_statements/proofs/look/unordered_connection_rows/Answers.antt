use Rattle.std.proofs.Common.{[]}
use Rattle.sqlite.specs.Held.{state}
use Rattle.acd_sql_columns.specs.declared.tables.Table.TheVariants as table
use Rattle.acd_sql_columns.proofs.Results.WholeTableQueries.{sees_all}
use Rattle.acd_sql_columns.proofs.FileTables.QueryResults.{unordered_connections, asks_unordered_connections}
use Rattle.acd_sql_columns.specs.Schema.{tables_1, BeginsSchema}
use Rattle.acd_sql_columns.proofs.OneTable.Listings.{plain_of}
use Rattle.acd_sql_columns.specs.declared.texts.TheConstants.{SELECT_STANDING_CONNECTIONS}
use Rattle.acd_sql_statements.specs.Looks.{HasGood}
use Rattle.acd_sql_statements.specs.ReadFailures.{RefusesToShow}
use Rattle.acd_sql_statements.proofs.ReadTexts.{standing_connections_over}
use Rattle.acd_sql_statements.proofs.LookCauses.{looks_so}
use Rattle.acd_sql_statements.proofs.look.unordered_connection_rows.Goals as goal

pub returns-clause-looks : goal.returns-clause-looks
returns-clause-looks g c = record {
  seen = λ d is.
      sees_all d (state g.S.Store c.args.conn.now) (state g.S.Store c.read.new.conn) c.read.result table.Connections tables_1 SELECT_STANDING_CONNECTIONS.now
      unordered_connections asks_unordered_connections is
      (c.read.ensures.seen d (plain_of tables_1 SELECT_STANDING_CONNECTIONS.now unordered_connections d.schema is));
}

pub returns-clause-looked : goal.returns-clause-looked
returns-clause-looked g c =
    looks_so (HasGood (BeginsSchema tables_1) []) (λ d. ¬ (RefusesToShow d SELECT_STANDING_CONNECTIONS.now [])) (λ d h. standing_connections_over d h.0)
    (state g.S.Store c.args.conn.now) (state g.S.Store c.read.new.conn) c.read.result c.read.ensures.looked
