use Rattle.sqlite.specs.Held.{state}
use Rattle.acd_sql_columns.proofs.FileTables.Counters.{starts}
use Rattle.acd_sql_statements.proofs.write.insert_meta.Goals as goal

pub returns-clause-start : goal.returns-clause-start
returns-clause-start g c clean =
    starts c.args.meta.now (state g.S.Store c.args.tx.now.conn.now) (state g.S.Store c.write.new.tx.conn.now) c.write.result
    (rw c.meta_values.ensures at (c.write.ensures.ran clean))

pub returns-clause-failed : goal.returns-clause-failed
returns-clause-failed g c clean inside =
    rw c.meta_values.ensures at (c.write.ensures.failed clean inside)
