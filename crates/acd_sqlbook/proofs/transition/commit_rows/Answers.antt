use Rattle.std.proofs.Common.{◌≡◌, Err, refl, rules, subst, sym}
use Rattle.sqlite.specs.declared.error.Error.TheVariants.{SqliteFailure}
use Rattle.sqlite.specs.declared.error.ErrorCode.TheVariants.{OutOfMemory}
use Rattle.sqlite.specs.Held.{state}
use Rattle.acd_book.specs.Content.{Follows, committed}
use Rattle.acd_sqlbook.specs.Calls.{HasReplaced}
use Rattle.acd_sqlbook.specs.CommitStops.{StopsReplace}
use Rattle.acd_sqlbook.proofs.CommitCauses.{no_request, replace_unfit, replace_not_led, replace_undone}
use Rattle.acd_sqlbook.proofs.TableReplacement.{Leading, replaces_not, replaces_still, replaces}
use Rattle.acd_sqlbook.proofs.transition.commit_rows.Goals as goal

pub returns-in_err-request-clause-commits : goal.returns-in_err-request-clause-commits
returns-in_err-request-clause-commits g c =
    let s = state g.S.Store c.args.ready.now.conn in
    let is : c.from_residual.result ≡ Err (SqliteFailure OutOfMemory) = search rules in
    subst (λ r. HasReplaced s s r (Follows c.args.rows.now c.args.events.now c.args.kept.now) (committed c.args.rows.now c.args.events.now c.args.kept.now))
    (sym is)
    (replaces_still s (SqliteFailure OutOfMemory) c.args.rows.now c.args.events.now c.args.kept.now)

pub returns-in_err-meta-clause-commits : goal.returns-in_err-meta-clause-commits
returns-in_err-meta-clause-commits g c =
    let s = state g.S.Store c.args.ready.now.conn in
    let is : c.from_residual-in_err-meta.result ≡ Err c.in_err-meta.field-0.0 = search rules in
    subst (λ r. HasReplaced s s r (Follows c.args.rows.now c.args.events.now c.args.kept.now) (committed c.args.rows.now c.args.events.now c.args.kept.now))
    (sym is)
    (replaces_still s c.in_err-meta.field-0.0 c.args.rows.now c.args.events.now c.args.kept.now)

pub returns-clause-commits : goal.returns-clause-commits
returns-clause-commits g c =
    replaces_not (state g.S.Store c.args.ready.now.conn) (state g.S.Store c.changes_to.new.ready.conn) c.in-Err.error (Leading c.args.rows.now) c.args.rows.now
    c.args.events.now c.args.kept.now c.in-Err.ensures.read

pub returns-in-Ok-clause-commits : goal.returns-in-Ok-clause-commits
returns-in-Ok-clause-commits g c =
    let e = c.commit_all.ensures in
    replaces (state g.S.Store c.args.ready.now.conn) (state g.S.Store c.changes_to.new.ready.conn) (state g.S.Store c.commit_all.new.conn) c.commit_all.result
    c.in-Ok.changes
    c.deref.result.now c.in_ok-meta.meta c.args.rows.now c.args.events.now c.args.kept.now c.deref.ensures.value c.in_ok-meta.ensures.is c.in-Ok.ensures.read
    (record { clean = e.clean; up = e.up; was = e.was; done = e.done; undone = e.undone; stops = e.stops })

pub returns-in_err-request-clause-cause : goal.returns-in_err-request-clause-cause
returns-in_err-request-clause-cause g c =
    no_request (StopsReplace c.args.rows.now c.args.events.now c.args.kept.now) (state g.S.Store c.args.ready.now.conn) (SqliteFailure OutOfMemory)
    c.from_residual.result (search rules) refl

pub returns-in_err-meta-clause-cause : goal.returns-in_err-meta-clause-cause
returns-in_err-meta-clause-cause g c =
    replace_unfit c.args.rows.now c.args.events.now c.args.kept.now (state g.S.Store c.args.ready.now.conn) c.in_err-meta.field-0.0
    c.from_residual-in_err-meta.result (search rules) c.in_err-meta.ensures.unfit

pub returns-clause-cause : goal.returns-clause-cause
returns-clause-cause g c =
    replace_not_led c.args.rows.now c.args.events.now c.args.kept.now (state g.S.Store c.args.ready.now.conn) (state g.S.Store c.changes_to.new.ready.conn)
    c.in-Err.error c.in-Err.ensures.cause

pub returns-in-Ok-clause-cause : goal.returns-in-Ok-clause-cause
returns-in-Ok-clause-cause g c =
    replace_undone c.args.rows.now c.args.events.now c.args.kept.now (state g.S.Store c.args.ready.now.conn) (state g.S.Store c.changes_to.new.ready.conn)
    (state g.S.Store c.commit_all.new.conn) c.commit_all.result c.in-Ok.changes
    c.deref.result.now c.in_ok-meta.meta c.deref.ensures.value c.in_ok-meta.ensures.is c.in-Ok.ensures.read c.in-Ok.ensures.cause c.commit_all.ensures.clean
    c.commit_all.ensures.failed
