use Rattle.sqlite.specs.Held.{state}
use Rattle.acd_sql_columns.proofs.FileTables.Counters.{second_version_set}
use Rattle.acd_sql_statements.proofs.write.set_second_version.Goals as goal

pub returns-clause-version : goal.returns-clause-version
returns-clause-version g c clean =
    second_version_set (state g.S.Store c.args.tx.now.conn.now) (state g.S.Store c.write.new.tx.conn.now) c.write.result (c.write.ensures.ran clean)
