use Rattle.std.proofs.Common.{◌≡◌, ℕ, Option, Err, length, ap, refl, rules, subst, sym}
use Rattle.sqlite.specs.Held.{state}
use Rattle.sqlite.specs.declared.error.Error.TheVariants.{SqliteFailure}
use Rattle.sqlite.specs.declared.error.ErrorCode.TheVariants.{OutOfMemory}
use Rattle.acd_sql_columns.specs.declared.meta.Meta.{Meta}
use Rattle.acd_sqlbook.specs.Calls.{HasReplaced}
use Rattle.acd_sqlbook.specs.Commit.{written_by}
use Rattle.acd_sqlbook.specs.Counters.{AreCounters, StopsOn}
use Rattle.acd_sqlbook.specs.CommitStops.{IsCausedByReadOr, StopsCounted}
use Rattle.acd_sqlbook.proofs.CommitCauses.{no_request, commit_uncounted, commit_undone}
use Rattle.acd_sqlbook.proofs.AfterProbe.{Counts, replaces_none, replaces_unasked, commits_counted, holds_counted}
use Rattle.acd_sqlbook.proofs.ready.Ready.commit_changes.Goals as goal

pub returns-in_err-request-clause-commits : goal.returns-in_err-request-clause-commits
returns-in_err-request-clause-commits g c =
    replaces_unasked (state g.S.Store c.args.self.now.conn) (SqliteFailure OutOfMemory) c.from_residual.result (AreCounters c.args.counters.now)
    (written_by c.args.changes.now c.args.events.now c.args.kept.now) (search rules)

pub returns-clause-commits : goal.returns-clause-commits
returns-clause-commits g c =
    replaces_none (state g.S.Store c.args.self.now.conn) (state g.S.Store c.counters.new.self.conn) c.in-Err.error
    (Counts c.take-held.result c.args.changes.now (length c.args.events.now) c.args.kept.now)
    (AreCounters c.args.counters.now) (written_by c.args.changes.now c.args.events.now c.args.kept.now) c.in-Err.ensures.read

pub returns-in-Ok-clause-commits : goal.returns-in-Ok-clause-commits
returns-in-Ok-clause-commits g c =
    let e = c.commit_all-done.ensures in
    let old = state g.S.Store c.args.self.now.conn in
    let new = state g.S.Store c.commit_all-done.new.conn in
    let taken : c.take-held.result ≡ c.args.counters.now = search rules in
    subst (λ (o : Option Meta). HasReplaced old new c.commit_all-done.result (AreCounters o) (written_by c.args.changes.now c.args.events.now c.args.kept.now))
    taken
    (commits_counted old (state g.S.Store c.counters.new.self.conn) new c.commit_all-done.result c.take-held.result c.in-Ok.last c.in-Ok.meta
    c.args.changes.now c.args.events.now c.args.kept.now c.in-Ok.ensures.read
    (record { clean = e.clean; up = e.up; was = e.was; done = e.done; undone = e.undone; stops = e.stops }))

pub returns-in-Ok-clause-counted : goal.returns-in-Ok-clause-counted
returns-in-Ok-clause-counted g c clean x holds of =
    let taken : c.take-held.result ≡ c.args.counters.now = search rules in
    holds_counted c.commit_all-done.result c.args.counters.now c.held_after.result c.in-Ok.meta c.args.changes.now c.args.events.now c.args.kept.now x
    c.held_after.ensures.ok
    (ap (λ (p : ℕ × Meta). p.1)
    (c.in-Ok.ensures.read.value (c.commit_all-done.ensures.clean clean) x holds (subst (λ (o : Option Meta). AreCounters o x) (sym taken) of)))

pub returns-in_err-request-clause-cause : goal.returns-in_err-request-clause-cause
returns-in_err-request-clause-cause g c =
    no_request (StopsOn c.args.counters.now (StopsCounted c.args.changes.now c.args.events.now c.args.kept.now)) (state g.S.Store c.args.self.now.conn)
    (SqliteFailure OutOfMemory) c.from_residual.result (search rules) refl

pub returns-clause-cause : goal.returns-clause-cause
returns-clause-cause g c =
    let old = state g.S.Store c.args.self.now.conn in
    let new = state g.S.Store c.counters.new.self.conn in
    let taken : c.take-held.result ≡ c.args.counters.now = search rules in
    subst
    (λ (o : Option Meta). IsCausedByReadOr {A = Unit {0}} (StopsOn o (StopsCounted c.args.changes.now c.args.events.now c.args.kept.now)) old new
    (Err c.in-Err.error))
    taken
    (commit_uncounted c.take-held.result c.args.changes.now c.args.events.now c.args.kept.now old new c.in-Err.error c.in-Err.ensures.cause)

pub returns-in-Ok-clause-cause : goal.returns-in-Ok-clause-cause
returns-in-Ok-clause-cause g c =
    let old = state g.S.Store c.args.self.now.conn in
    let new = state g.S.Store c.commit_all-done.new.conn in
    let taken : c.take-held.result ≡ c.args.counters.now = search rules in
    subst
    (λ (o : Option Meta). IsCausedByReadOr (StopsOn o (StopsCounted c.args.changes.now c.args.events.now c.args.kept.now)) old new
    c.commit_all-done.result)
    taken
    (commit_undone c.take-held.result c.args.changes.now c.args.events.now c.args.kept.now old (state g.S.Store c.counters.new.self.conn) new
    c.commit_all-done.result c.in-Ok.last c.in-Ok.meta
    c.in-Ok.ensures.read c.in-Ok.ensures.cause c.commit_all-done.ensures.clean c.commit_all-done.ensures.failed)
