use Rattle.sqlite.specs.Held.{state}
use Rattle.sqlite.specs.Values.{bound}
use Rattle.sqlite.proofs.Callers.{never_commits}
use Rattle.acd_sql_columns.proofs.Results.Queries.{quiet_query, quiet_stops, query_up, plain_at}
use Rattle.acd_sql_columns.proofs.Results.SnapshotReads.{sees_query}
use Rattle.acd_sql_statements.proofs.ReadCauses.{cause_query}
use Rattle.acd_sql_statements.proofs.LookCauses.{looks_query}
use Rattle.acd_sql_statements.proofs.read.read.Goals as goal

pub returns-clause-up : goal.returns-clause-up
returns-clause-up g c clean =
    query_up c.args.sql.now (bound c.args.params.now) (state g.S.Store c.args.conn.now) (state g.S.Store c.query_all.new.self) c.query_all.result
    (c.query_all.ensures.ok clean)

pub returns-clause-quiet : goal.returns-clause-quiet
returns-clause-quiet g c plain =
    quiet_query c.args.sql.now (bound c.args.params.now) (state g.S.Store c.args.conn.now) (state g.S.Store c.query_all.new.self) c.query_all.result plain
    c.query_all.ensures.survives c.query_all.ensures.ok c.query_all.ensures.err

pub returns-clause-stops : goal.returns-clause-stops
returns-clause-stops g c clean plain x held =
    quiet_stops (state g.S.Store c.args.conn.now) (state g.S.Store c.query_all.new.self) c.query_all.ensures.survives clean
    (λ db. never_commits c.args.sql.now (bound c.args.params.now) (state g.S.Store c.args.conn.now) db
    (plain_at c.args.sql.now (state g.S.Store c.args.conn.now) x plain held))

pub returns-clause-seen : goal.returns-clause-seen
returns-clause-seen g c d plain =
    sees_query c.args.sql.now (bound c.args.params.now) d (state g.S.Store c.args.conn.now) (state g.S.Store c.query_all.new.self) c.query_all.result plain
    c.query_all.ensures.survives c.query_all.ensures.ok c.query_all.ensures.err

pub returns-clause-cause : goal.returns-clause-cause
returns-clause-cause g c asked =
    cause_query c.args.sql.now (bound c.args.params.now) (state g.S.Store c.args.conn.now) (state g.S.Store c.query_all.new.self) c.query_all.result asked
    c.query_all.ensures.survives c.query_all.ensures.mode c.query_all.ensures.err

pub returns-clause-looked : goal.returns-clause-looked
returns-clause-looked g c =
    looks_query c.args.sql.now (bound c.args.params.now) (state g.S.Store c.args.conn.now) (state g.S.Store c.query_all.new.self) c.query_all.result
    c.query_all.ensures.survives c.query_all.ensures.mode c.query_all.ensures.err
