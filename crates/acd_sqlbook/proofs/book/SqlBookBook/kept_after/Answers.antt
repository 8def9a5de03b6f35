use Rattle.sqlite.specs.Held.{state}
use Rattle.acd_book.specs.Content.{IsKeptAfter}
use Rattle.acd_sqlbook.specs.Causes.{read}
use Rattle.acd_sqlbook.proofs.BookStates.{reads_recorded}
use Rattle.acd_sqlbook.proofs.FailureCauses.{reads_caused, recorded_cause}
use Rattle.acd_sqlbook.specs.RecordsAhead.{IsAhead}
use Rattle.acd_sqlbook.proofs.CachedCalls.{read_goes, reads_followed}
use Rattle.acd_sqlbook.proofs.book.SqlBookBook.kept_after.Goals as goal

pub returns-clause-reads : goal.returns-clause-reads
returns-clause-reads g c =
    rw (← c.self.view_is)
    (reads_followed c.self.inside.cache (record c.self.inside.cache { ahead = c.kept_followed-found.new.ahead }) _ _ _ _ _
    (read_goes c.self.inside.cache (record c.self.inside.cache { ahead = c.kept_followed-found.new.ahead }) (state g.S.Store c.self.inside.ready.conn)
    (state g.S.Store c.kept_followed-found.new.ready.conn)
    (λ k x held of. record {
      index = of.index;
      ahead = c.kept_followed-found.ensures.recorded k x held of.ahead;
      counters = of.counters;
    })) (λ x a of p. p of.ahead)
    (reads_recorded (state g.S.Store c.self.inside.ready.conn) (state g.S.Store c.kept_followed-found.new.ready.conn) c.self.inside.failures
    c.recorded.new.failures c.kept_followed-found.result c.recorded.result
    (λ x found. IsAhead c.self.inside.cache.ahead x.kept → IsKeptAfter x.kept c.args.stamp found) (g.met.S.Store.settled c.self.inside.ready.conn.store)
    (g.met.S.Store.stays c.kept_followed-found.new.ready.conn.store)
    c.recorded.ensures.answer c.recorded.ensures.failures c.recorded.ensures.counts c.kept_followed-found.ensures.read))

pub returns-clause-caused : goal.returns-clause-caused
returns-clause-caused g c =
    rw (← c.self.view_is)
    (recorded_cause read (state g.S.Store c.self.inside.ready.conn) (state g.S.Store c.kept_followed-found.new.ready.conn) c.self.inside.failures
    c.recorded.new.failures c.recorded.result c.recorded.ensures.failures
    (reads_caused (state g.S.Store c.self.inside.ready.conn) (state g.S.Store c.kept_followed-found.new.ready.conn) c.kept_followed-found.result
    c.recorded.result c.self.inside.ready.unlimited c.recorded.ensures.answer c.kept_followed-found.ensures.cause))
