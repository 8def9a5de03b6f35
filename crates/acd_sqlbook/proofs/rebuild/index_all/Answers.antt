use Rattle.std.proofs.Common.{rules, Ok, Err, None, Some, sym, ◌∙◌, arith}
use Rattle.sqlite.specs.Held.{state}
use Rattle.acd_sql_statements.proofs.ReadCauses.{cause_as, cause_after, cause_done, cause_still}
use Rattle.acd_sqlbook.proofs.IndexRebuild.{nothing_in, pass_begins, pass_more, pass_all, pass_not, pass_fails, pass_cut}
use Rattle.acd_sqlbook.proofs.rebuild.index_all.Goals as goal

pub loop-init : goal.loop-init
loop-init g c = record {
  found = pass_begins (state g.S.Store c.args.conn.now) c.args.begun;
  cause = λ is_open. cause_still (state g.S.Store c.args.conn.now) c.args.begun;
}

pub returns-in_err-page-clause-found : goal.returns-in_err-page-clause-found
returns-in_err-page-clause-found g c is_open =
    pass_fails (state g.S.Store c.args.conn.now) (state g.S.Store c.loop.conn) (state g.S.Store c.events_after.new.conn) c.args.begun c.loop.index 1000
    (c.loop.invariant.found is_open)
    c.in_err-page.field-0.0 c.from_residual.result (search rules) c.in_err-page.ensures.found

pub returns-in_err-page-clause-cause : goal.returns-in_err-page-clause-cause
returns-in_err-page-clause-cause g c is_open =
    let so_far = c.loop.invariant.found is_open in
    cause_as (state g.S.Store c.args.conn.now) (state g.S.Store c.events_after.new.conn) c.in_err-page.field-0.0 c.from_residual.result (search rules)
    (cause_after (state g.S.Store c.args.conn.now) (state g.S.Store c.loop.conn) (state g.S.Store c.events_after.new.conn) c.loop.index
    (Err c.in_err-page.field-0.0) (c.loop.invariant.cause is_open) so_far.quiet so_far.up c.in_err-page.ensures.found.quiet.clean
    c.in_err-page.ensures.cause)

pub returns-then-is_empty-clause-found : goal.returns-then-is_empty-clause-found
returns-then-is_empty-clause-found g c is_open =
    let none = nothing_in c.in_ok-page.page (sym c.is_empty.ensures ∙ c.if-is_empty.true) in
    pass_all (state g.S.Store c.args.conn.now) (state g.S.Store c.loop.conn) (state g.S.Store c.events_after.new.conn) c.args.begun c.loop.index 1000
    (c.loop.invariant.found is_open)
    c.in_ok-page.page none (omega arith) c.in_ok-page.ensures.found

pub returns-then-is_empty-clause-cause : goal.returns-then-is_empty-clause-cause
returns-then-is_empty-clause-cause g c is_open =
    let so_far = c.loop.invariant.found is_open in
    cause_done (state g.S.Store c.args.conn.now) (state g.S.Store c.events_after.new.conn) c.in_ok-page.page (Some c.loop.index)
    (cause_after (state g.S.Store c.args.conn.now) (state g.S.Store c.loop.conn) (state g.S.Store c.events_after.new.conn) c.loop.index (Ok c.in_ok-page.page)
    (c.loop.invariant.cause is_open) so_far.quiet so_far.up c.in_ok-page.ensures.found.quiet.clean c.in_ok-page.ensures.cause)

pub returns-in-None-clause-found : goal.returns-in-None-clause-found
returns-in-None-clause-found g c is_open =
    pass_not (state g.S.Store c.args.conn.now) (state g.S.Store c.loop.conn) (state g.S.Store c.events_after.new.conn) c.args.begun c.loop.index 1000
    (c.loop.invariant.found is_open)
    c.in_ok-page.page c.in_ok-page.ensures.found

pub returns-in-None-clause-cause : goal.returns-in-None-clause-cause
returns-in-None-clause-cause g c is_open =
    let so_far = c.loop.invariant.found is_open in
    cause_done (state g.S.Store c.args.conn.now) (state g.S.Store c.events_after.new.conn) c.in_ok-page.page None
    (cause_after (state g.S.Store c.args.conn.now) (state g.S.Store c.loop.conn) (state g.S.Store c.events_after.new.conn) c.loop.index (Ok c.in_ok-page.page)
    (c.loop.invariant.cause is_open) so_far.quiet so_far.up c.in_ok-page.ensures.found.quiet.clean c.in_ok-page.ensures.cause)

pub loop-preserved : goal.loop-preserved
loop-preserved g c = record {
  found =
      λ is_open. pass_more (state g.S.Store c.args.conn.now) (state g.S.Store c.loop.conn) (state g.S.Store c.events_after.new.conn) c.args.begun c.loop.index
      1000 (c.loop.invariant.found is_open)
      c.in_ok-page.page c.in-Some.next (rw c.deref.ensures.value at c.in-Some.ensures) c.in_ok-page.ensures.found;
  cause = λ is_open.
      let so_far = c.loop.invariant.found is_open in
      cause_done (state g.S.Store c.args.conn.now) (state g.S.Store c.events_after.new.conn) c.in_ok-page.page c.in-Some.next
      (cause_after (state g.S.Store c.args.conn.now) (state g.S.Store c.loop.conn) (state g.S.Store c.events_after.new.conn) c.loop.index (Ok c.in_ok-page.page)
      (c.loop.invariant.cause is_open) so_far.quiet so_far.up c.in_ok-page.ensures.found.quiet.clean c.in_ok-page.ensures.cause);
}

pub returns-clause-found : goal.returns-clause-found
returns-clause-found g c is_open =
    pass_cut (state g.S.Store c.args.conn.now) (state g.S.Store c.loop.conn) c.args.begun c.loop.index (c.loop.invariant.found is_open)

pub returns-clause-cause : goal.returns-clause-cause
returns-clause-cause g c is_open = cause_done (state g.S.Store c.args.conn.now) (state g.S.Store c.loop.conn) c.loop.index None (c.loop.invariant.cause is_open)
