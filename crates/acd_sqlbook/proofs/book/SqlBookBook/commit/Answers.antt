use Rattle.sqlite.specs.Held.{state}
use Rattle.acd_sqlbook.specs.Causes.{replace}
use Rattle.acd_sqlbook.proofs.CachedCalls.{blank_of, commits_followed}
use Rattle.acd_sqlbook.proofs.BookStates.{rows_recorded}
use Rattle.acd_sqlbook.proofs.FailureCauses.{replace_caused, recorded_cause}
use Rattle.acd_sqlbook.proofs.book.SqlBookBook.commit.Goals as goal

pub returns-clause-commits : goal.returns-clause-commits
returns-clause-commits g c =
    rw (← c.self.view_is)
    (commits_followed c.self.inside.cache c.forget.new.self _ _ _ _ _ (λ k s up n. blank_of c.forget.new.self c.forget.ensures _)
    (rows_recorded (state g.S.Store c.self.inside.ready.conn) (state g.S.Store c.commit_rows-done.new.ready.conn) c.self.inside.failures c.recorded.new.failures
    c.commit_rows-done.result c.recorded.result
    c.args.rows.now c.args.events.now c.args.kept.now c.recorded.ensures.answer c.recorded.ensures.failures c.recorded.ensures.counts
    c.commit_rows-done.ensures.commits))

pub returns-clause-caused : goal.returns-clause-caused
returns-clause-caused g c =
    let old = state g.S.Store c.self.inside.ready.conn in
    let new = state g.S.Store c.commit_rows-done.new.ready.conn in
    rw (← c.self.view_is)
    (recorded_cause (replace c.args.rows.now c.args.events.now c.args.kept.now) old new c.self.inside.failures c.recorded.new.failures c.recorded.result
    c.recorded.ensures.failures
    (replace_caused c.args.rows.now c.args.events.now c.args.kept.now old new c.self.inside.ready.unlimited c.commit_rows-done.result c.recorded.result
    c.recorded.ensures.answer c.commit_rows-done.ensures.cause))
