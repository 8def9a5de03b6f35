use Rattle.std.proofs.Common.{◌≡◌}
use Rattle.sqlite.specs.Held.{state}
use Rattle.acd_book.specs.Content.{records_after}
use Rattle.acd_sqlbook.specs.Causes.{read}
use Rattle.acd_sqlbook.proofs.BookStates.{reads_recorded}
use Rattle.acd_sqlbook.proofs.FailureCauses.{reads_caused, recorded_cause}
use Rattle.acd_sqlbook.proofs.CachedCalls.{reads_kept}
use Rattle.acd_sqlbook.proofs.book.SqlBookBook.requests_after.Goals as goal

pub returns-clause-reads : goal.returns-clause-reads
returns-clause-reads g c =
    rw (← c.self.view_is)
    (reads_kept c.self.inside.cache _ _ _ _
    (reads_recorded (state g.S.Store c.self.inside.ready.conn) (state g.S.Store c.records_after-found.new.self.conn) c.self.inside.failures
    c.recorded.new.failures c.records_after-found.result c.recorded.result
    (λ x found. found.items ≡ records_after x.kept c.args.stamp c.args.limit) (g.met.S.Store.settled c.self.inside.ready.conn.store)
    (g.met.S.Store.stays c.records_after-found.new.self.conn.store)
    c.recorded.ensures.answer c.recorded.ensures.failures c.recorded.ensures.counts c.records_after-found.ensures.read))

pub returns-clause-caused : goal.returns-clause-caused
returns-clause-caused g c =
    rw (← c.self.view_is)
    (recorded_cause read (state g.S.Store c.self.inside.ready.conn) (state g.S.Store c.records_after-found.new.self.conn) c.self.inside.failures
    c.recorded.new.failures c.recorded.result c.recorded.ensures.failures
    (reads_caused (state g.S.Store c.self.inside.ready.conn) (state g.S.Store c.records_after-found.new.self.conn) c.records_after-found.result
    c.recorded.result c.self.inside.ready.unlimited c.recorded.ensures.answer c.records_after-found.ensures.cause))
