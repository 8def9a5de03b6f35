use Rattle.std.proofs.Common.{◌≡◌}
use Rattle.sqlite.specs.Held.{state}
use Rattle.acd_book.specs.Content.{events_of_monitor}
use Rattle.acd_sqlbook.specs.Causes.{read}
use Rattle.acd_sqlbook.proofs.BookStates.{reads_recorded}
use Rattle.acd_sqlbook.proofs.FailureCauses.{reads_caused, recorded_cause}
use Rattle.acd_sqlbook.specs.EventIndex.{IsIndexOf}
use Rattle.acd_sqlbook.proofs.CachedCalls.{read_goes, reads_followed}
use Rattle.acd_sqlbook.proofs.book.SqlBookBook.events_of_monitor.Goals as goal

pub returns-clause-reads : goal.returns-clause-reads
returns-clause-reads g c =
    rw (← c.self.view_is)
    (reads_followed c.self.inside.cache (record c.self.inside.cache { index = c.page_followed-found.new.recorded }) _ _ _ _ _
    (read_goes c.self.inside.cache (record c.self.inside.cache { index = c.page_followed-found.new.recorded }) (state g.S.Store c.self.inside.ready.conn)
    (state g.S.Store c.page_followed-found.new.ready.conn)
    (λ k x held of. record {
      index = c.page_followed-found.ensures.recorded k x held of.index;
      ahead = of.ahead;
      counters = of.counters;
    })) (λ x a of p. p of.index)
    (reads_recorded (state g.S.Store c.self.inside.ready.conn) (state g.S.Store c.page_followed-found.new.ready.conn) c.self.inside.failures
    c.recorded.new.failures c.page_followed-found.result c.recorded.result
    (λ x found. IsIndexOf c.self.inside.cache.index x.events → found.items ≡ events_of_monitor x c.args.monitor c.args.number c.args.limit)
    (g.met.S.Store.settled c.self.inside.ready.conn.store) (g.met.S.Store.stays c.page_followed-found.new.ready.conn.store)
    c.recorded.ensures.answer c.recorded.ensures.failures c.recorded.ensures.counts c.page_followed-found.ensures.read))

pub returns-clause-caused : goal.returns-clause-caused
returns-clause-caused g c =
    rw (← c.self.view_is)
    (recorded_cause read (state g.S.Store c.self.inside.ready.conn) (state g.S.Store c.page_followed-found.new.ready.conn) c.self.inside.failures
    c.recorded.new.failures c.recorded.result c.recorded.ensures.failures
    (reads_caused (state g.S.Store c.self.inside.ready.conn) (state g.S.Store c.page_followed-found.new.ready.conn) c.page_followed-found.result
    c.recorded.result c.self.inside.ready.unlimited c.recorded.ensures.answer c.page_followed-found.ensures.cause))
