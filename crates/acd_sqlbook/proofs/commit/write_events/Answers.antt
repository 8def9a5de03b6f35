use Rattle.std.proofs.Common.{◌≡◌, inl, inr, rules, subst, ◌∙◌, arith}
use Rattle.sqlite.specs.State.{HasCleanDisk}
use Rattle.sqlite.specs.Held.{state}
use Rattle.acd_sql_columns.proofs.Writes.TransactionEnds.{works_on}
use Rattle.acd_sql_columns.specs.Transactions.{HoldsGood}
use Rattle.acd_sqlbook.specs.Commit.{with_events}
use Rattle.acd_sqlbook.specs.CommitStops.{StopsAtEvents, StopsInEvents}
use Rattle.acd_sqlbook.proofs.WritesInTurn.{part_applied}
use Rattle.acd_sqlbook.proofs.PartCauses.{next_stops, stops_after, stops_same}
use Rattle.acd_sqlbook.proofs.commit.write_events.Goals as goal

pub write_some-requires-clause-limit : goal.write_some-requires-clause-limit
write_some-requires-clause-limit g c = c.loop-some.invariant.works.survives.limit ∙ c.requires

pub loop-some-preserved : goal.loop-some-preserved
loop-some-preserved g c =
    let inv = c.loop-some.invariant in
    let e = c.write_some.ensures in
    record {
      same = e.same ∙ inv.same;
      works = works_on _ _ _ inv.works e.works;
      put = λ clean x d.
          let before : HasCleanDisk (state g.S.Store c.loop-some.tx.conn.now) = omega (arith, e.works.survives.clean) in
          let held = inv.put before x d in
          let next = c.in-Some.ensures.some in (
            with_events held.0 c.in-Some.some.now,
            c.in_ok-write_some.ensures.put clean held.0 held.1,
            part_applied held.0 (with_events x c.args.events.now) c.loop-some.rest.now c.in-Some.some.now c.in-Some.remaining.now next held.2,
            λ h. held.3 (next_stops StopsAtEvents c.loop-some.rest.now c.in-Some.some.now c.in-Some.remaining.now next held.0 (inr h)),
          );
    }

pub returns-clause-put : goal.returns-clause-put
returns-clause-put g c clean x d =
    let held = c.loop-some.invariant.put clean x d in
    subst (λ k. HoldsGood (state g.S.Store c.loop-some.tx.conn.now) k)
    (subst (λ l. with_events held.0 l ≡ with_events x c.args.events.now) (c.next_events.ensures.none c.in_default.is) held.2) held.1

pub returns-in_err-write_some-clause-failed : goal.returns-in_err-write_some-clause-failed
returns-in_err-write_some-clause-failed g c =
    let old = state g.S.Store c.args.tx.now.conn.now in
    let mid = state g.S.Store c.loop-some.tx.conn.now in
    let new = state g.S.Store c.write_some.new.tx.conn.now in
    let inv = c.loop-some.invariant in
    let all = StopsInEvents c.args.events.now in
    let error = c.in_err-write_some.field-0.0 in
    stops_same old new all error c.from_residual.result (search rules)
    (λ clean x d.
    let before : HasCleanDisk mid = omega (arith, clean, c.write_some.ensures.works.survives.clean) in
    let held = inv.put before x d in
    stops_after all x (StopsAtEvents c.in-Some.some.now) held.0 old mid new error inv.works c.write_some.ensures.works before
    (λ h. held.3 (next_stops StopsAtEvents c.loop-some.rest.now c.in-Some.some.now c.in-Some.remaining.now c.in-Some.ensures.some held.0 (inl h)))
    (c.in_err-write_some.ensures.failed clean held.0 held.1))
