use Rattle.std.specs.Prelude.{⊤}
use Rattle.sqlite.specs.Held.{state}
use Rattle.acd_book.specs.Content.{Content}
use Rattle.acd_book.specs.PrunedContent.{pruned}
use Rattle.acd_sqlbook.specs.Causes.{prune}
use Rattle.acd_sqlbook.proofs.CachedCalls.{blank_of, commits_followed}
use Rattle.acd_sqlbook.proofs.BookStates.{commits_recorded}
use Rattle.acd_sqlbook.proofs.FailureCauses.{recorded_cause}
use Rattle.acd_sqlbook.proofs.Pruning.{prune_caused}
use Rattle.acd_sqlbook.proofs.book.SqlBook.prune.Goals as goal

pub returns-clause-commits : goal.returns-clause-commits
returns-clause-commits g c =
    rw (← c.self.view_is)
    (commits_followed c.self.inside.cache c.forget.new.self _ _ _ _ _ (λ k s up n. blank_of c.forget.new.self c.forget.ensures _)
    (commits_recorded (state g.S.Store c.self.inside.ready.conn) (state g.S.Store c.prune_ready-done.new.ready.conn) c.self.inside.failures
    c.recorded.new.failures c.prune_ready-done.result c.recorded.result
    (λ (x : Content). ⊤) (pruned c.args.stamp c.args.number) c.recorded.ensures.answer c.recorded.ensures.failures c.recorded.ensures.counts
    c.prune_ready-done.ensures.commits))

pub returns-clause-caused : goal.returns-clause-caused
returns-clause-caused g c =
    let old = state g.S.Store c.self.inside.ready.conn in
    let new = state g.S.Store c.prune_ready-done.new.ready.conn in
    rw (← c.self.view_is)
    (recorded_cause (prune c.args.stamp c.args.number) old new c.self.inside.failures c.recorded.new.failures c.recorded.result c.recorded.ensures.failures
    (prune_caused c.args.stamp c.args.number old new c.self.inside.ready.unlimited c.prune_ready-done.result c.recorded.result c.recorded.ensures.answer
    c.prune_ready-done.ensures.cause))
