use Rattle.std.proofs.Common.{◌≡◌, Option, rules, subst}
use Rattle.acd_sqlbook.specs.EventIndex.{IsIndexAfter}
use Rattle.acd_sqlbook.specs.declared.index.Index.{Index}
use Rattle.acd_sqlbook.specs.declared.cache.Cache.{Cache}
use Rattle.sqlite.specs.Held.{state}
use Rattle.acd_sqlbook.specs.Causes.{change}
use Rattle.acd_sqlbook.specs.Counters.{AreCounters}
use Rattle.acd_sqlbook.proofs.CachedCalls.{commits_resting, changes_goes}
use Rattle.acd_sqlbook.proofs.BookStates.{changes_recorded}
use Rattle.acd_sqlbook.proofs.FailureCauses.{changes_caused, recorded_cause}
use Rattle.acd_sqlbook.proofs.book.SqlBookBook.commit_changes.Goals as goal

pub returns-clause-commits : goal.returns-clause-commits
returns-clause-commits g c =
    let taken : c.take-before.result ≡ c.self.inside.cache.index = search rules in
    let new_cache : Cache = record { index = c.index_after.result; ahead = c.forget.new.self; counters = c.commit_changes-done.new.counters } in
    rw (← c.self.view_is)
    (commits_resting c.self.inside.cache new_cache _ _ _ (AreCounters c.self.inside.cache.counters) _ _ (λ x of. of.counters)
    (changes_goes c.self.inside.cache new_cache (state g.S.Store c.self.inside.ready.conn) (state g.S.Store c.commit_changes-done.new.self.conn)
    c.commit_changes-done.result c.args.changes.now c.args.events.now c.args.kept.now
    (subst (λ (o : Option Index). IsIndexAfter o c.commit_changes-done.result c.args.events.now c.index_after.result) taken c.index_after.ensures)
    c.forget.ensures c.commit_changes-done.ensures.forgotten c.commit_changes-done.ensures.counted c.commit_changes-done.ensures.commits)
    (changes_recorded (state g.S.Store c.self.inside.ready.conn) (state g.S.Store c.commit_changes-done.new.self.conn) c.self.inside.failures
    c.recorded.new.failures c.commit_changes-done.result c.recorded.result c.self.inside.cache.counters
    c.args.changes.now c.args.events.now c.args.kept.now c.recorded.ensures.answer c.recorded.ensures.failures c.recorded.ensures.counts
    c.commit_changes-done.ensures.commits))

pub returns-clause-caused : goal.returns-clause-caused
returns-clause-caused g c =
    let old = state g.S.Store c.self.inside.ready.conn in
    let new = state g.S.Store c.commit_changes-done.new.self.conn in
    rw (← c.self.view_is)
    (λ sound. recorded_cause (change c.args.changes.now c.args.events.now c.args.kept.now) old new c.self.inside.failures c.recorded.new.failures
    c.recorded.result c.recorded.ensures.failures
    (changes_caused c.args.changes.now c.args.events.now c.args.kept.now old new c.self.inside.ready.unlimited c.self.inside.cache.counters
    (λ up. (sound.1 up).counters) c.commit_changes-done.result c.recorded.result c.recorded.ensures.answer c.commit_changes-done.ensures.cause))
