use Rattle.std.proofs.Common.{◌≡◌, refl, rules, Ok, Err, take, subst}
use Rattle.sqlite.specs.Held.{state}
use Rattle.sqlite.specs.declared.error.Error.{Error}
use Rattle.acd_sql_columns.specs.ReadResults.{Finds}
use Rattle.acd_sql_statements.specs.EventsByNumber.{picked}
use Rattle.acd_sql_statements.proofs.ReadCauses.{cause_as, cause_after, cause_done, cause_still}
use Rattle.acd_sql_statements.proofs.ReadsByNumber.{all_picked, picked_none, picked_more, picked_broken}
use Rattle.acd_sql_statements.proofs.numbered.events_numbered.Goals as goal

pub loop-number-init : goal.loop-number-init
loop-number-init g c = record {
  found = picked_none (state g.S.Store c.args.conn.now) c.new-found.result c.new-found.ensures.items;
  cause = λ is_open. cause_still (state g.S.Store c.args.conn.now) c.new-found.result;
}

pub returns-in_err-add_numbered-clause-found : goal.returns-in_err-add_numbered-clause-found
returns-in_err-add_numbered-clause-found g c is_open =
    picked_broken (state g.S.Store c.args.conn.now) (state g.S.Store c.loop-number.conn) (state g.S.Store c.add_numbered.new.conn) c.loop-number.found
    c.add_numbered.new.found c.args.numbers.now (take c.loop-number.number-index c.args.numbers.now) _ c.in_err-add_numbered.field-0.0
    (c.loop-number.invariant.found is_open) c.in_err-add_numbered.ensures.found c.from_residual.result (search rules)

pub returns-in_err-add_numbered-clause-cause : goal.returns-in_err-add_numbered-clause-cause
returns-in_err-add_numbered-clause-cause g c is_open =
    let so_far = c.loop-number.invariant.found is_open in
    cause_as (state g.S.Store c.args.conn.now) (state g.S.Store c.add_numbered.new.conn) c.in_err-add_numbered.field-0.0 c.from_residual.result (search rules)
    (cause_after (state g.S.Store c.args.conn.now) (state g.S.Store c.loop-number.conn) (state g.S.Store c.add_numbered.new.conn) c.loop-number.found
    (Err c.in_err-add_numbered.field-0.0) (c.loop-number.invariant.cause is_open) so_far.quiet so_far.up c.in_err-add_numbered.ensures.found.quiet.clean
    c.in_err-add_numbered.ensures.cause)

pub loop-number-preserved : goal.loop-number-preserved
loop-number-preserved g c = record {
  found =
      λ is_open. picked_more (state g.S.Store c.args.conn.now) (state g.S.Store c.loop-number.conn) (state g.S.Store c.add_numbered.new.conn)
      c.loop-number.found c.add_numbered.new.found c.args.numbers.now c.loop-number.number-index _ 0 refl c.loop-number-test.true
      (c.loop-number.invariant.found is_open) c.in_ok-add_numbered.ensures.found;
  cause = λ is_open.
      let so_far = c.loop-number.invariant.found is_open in
      cause_done (state g.S.Store c.args.conn.now) (state g.S.Store c.add_numbered.new.conn) c.in_ok-add_numbered.field-0 c.add_numbered.new.found
      (cause_after (state g.S.Store c.args.conn.now) (state g.S.Store c.loop-number.conn) (state g.S.Store c.add_numbered.new.conn) c.loop-number.found
      (Ok c.in_ok-add_numbered.field-0) (c.loop-number.invariant.cause is_open) so_far.quiet so_far.up c.in_ok-add_numbered.ensures.found.quiet.clean
      c.in_ok-add_numbered.ensures.cause);
}

pub returns-clause-found : goal.returns-clause-found
returns-clause-found g c is_open =
    subst
    (λ ns. Finds {E = Error} (state g.S.Store c.args.conn.now) (state g.S.Store c.loop-number.conn) (Ok c.loop-number.found)
    (λ x events. events.items ≡ picked x.events ns))
    (all_picked c.loop-number.number-index c.args.numbers.now c.loop-number-test.false) (c.loop-number.invariant.found is_open)

pub returns-clause-cause : goal.returns-clause-cause
returns-clause-cause g c = c.loop-number.invariant.cause
