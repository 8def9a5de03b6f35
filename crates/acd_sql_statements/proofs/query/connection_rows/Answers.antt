use Rattle.sqlite.specs.Held.{state}
use Rattle.acd_sql_columns.specs.Schema.{tables_1}
use Rattle.acd_sql_columns.proofs.OneTable.Listings.{finds, plain_of}
use Rattle.acd_sql_columns.proofs.FileTables.Connections.{connections_plain, shows_connections, connections_listing}
use Rattle.acd_sql_columns.specs.declared.tables.Table.TheVariants as table
use Rattle.acd_sql_columns.proofs.Results.WholeTableQueries.{sees_all}
use Rattle.acd_sql_columns.proofs.FileTables.QueryResults.{asks_connections}
use Rattle.acd_sql_columns.specs.declared.texts.TheConstants.{SELECT_CONNECTIONS}
use Rattle.acd_sql_statements.proofs.ReadTexts.{connections_answered}
use Rattle.acd_sql_statements.proofs.query.connection_rows.Goals as goal

pub returns-clause-found : goal.returns-clause-found
returns-clause-found g c =
    let e = c.read.ensures in
    finds _ _ (state g.S.Store c.args.conn.now) (state g.S.Store c.read.new.conn) c.read.result connections_plain _
    (record { up = e.up; quiet = e.quiet; stops = e.stops; shown = e.shown }) (shows_connections _ _)

pub returns-clause-seen : goal.returns-clause-seen
returns-clause-seen g c d is =
    sees_all d (state g.S.Store c.args.conn.now) (state g.S.Store c.read.new.conn) c.read.result table.Connections tables_1 SELECT_CONNECTIONS.now
    connections_listing asks_connections is (c.read.ensures.seen d (plain_of tables_1 SELECT_CONNECTIONS.now connections_listing d.schema is))

pub returns-clause-cause : goal.returns-clause-cause
returns-clause-cause g c = c.read.ensures.cause connections_answered
