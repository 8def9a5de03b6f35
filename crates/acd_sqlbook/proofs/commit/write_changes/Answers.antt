use Rattle.std.proofs.Common.{◌∙◌, arith}
use Rattle.sqlite.specs.State.{HasCleanDisk}
use Rattle.sqlite.specs.Held.{state}
use Rattle.acd_sql_columns.proofs.Writes.TransactionEnds.{works_on}
use Rattle.acd_sqlbook.proofs.ElidedPuts.{next_applied, none_left}
use Rattle.std.proofs.Common.{inl, inr, rules, subst, sym, IsTrue}
use Rattle.acd_sqlbook.specs.Commit.{applied}
use Rattle.acd_book.specs.Content.{Content}
use Rattle.acd_sqlbook.specs.WriteChoice.{written_changes}
use Rattle.acd_sqlbook.specs.CommitStops.{HasAbove, StopsAtChange, StopsInChanges}
use Rattle.acd_sqlbook.proofs.FreshKeys.{unmet_next, stops_unseen}
use Rattle.acd_sqlbook.proofs.PartCauses.{stops_after, stops_same}
use Rattle.acd_sqlbook.proofs.commit.write_changes.Goals as goal

pub write_change-requires : goal.write_change-requires
write_change-requires g c = c.loop-change.invariant.works.survives.limit ∙ c.requires

pub loop-change-preserved : goal.loop-change-preserved
loop-change-preserved g c =
    let inv = c.loop-change.invariant in
    let e = c.write_change.ensures in
    record {
      same = e.same ∙ inv.same;
      works = works_on _ _ _ inv.works e.works;
      put = λ clean x d.
          let before : HasCleanDisk (state g.S.Store c.loop-change.tx.conn.now) = omega (arith, e.works.survives.clean) in
          next_applied _ _ c.in-Some.change.now c.loop-change.rest.now c.in-Some.remaining.now c.args.changes.now x c.in-Some.ensures.some.applying
          (c.in_ok-write_change.ensures.put clean) (inv.put before x d);
      stops = λ clean x d.
          let before : HasCleanDisk (state g.S.Store c.loop-change.tx.conn.now) = omega (arith, e.works.survives.clean) in
          let held = inv.stops before x d in
          let next = c.in-Some.ensures.some in (
            applied held.0 c.in-Some.change.now,
            c.in_ok-write_change.ensures.put clean held.0 held.1,
            λ h. held.2 (subst (λ l. StopsInChanges (HasAbove c.args.last x) l held.0) (sym next.first) (inr h)),
            unmet_next c.loop-change.rest.now c.in-Some.remaining.now c.args.changes.now c.in-Some.change.now x held.0 next held.3,
          );
    }

pub returns-clause-put : goal.returns-clause-put
returns-clause-put g c clean x d =
    none_left (state g.S.Store c.loop-change.tx.conn.now) c.loop-change.rest.now c.args.changes.now x (c.next_statement.ensures.none c.in_default.is)
    (c.loop-change.invariant.put clean x d)

pub returns-in_err-write_change-clause-failed : goal.returns-in_err-write_change-clause-failed
returns-in_err-write_change-clause-failed g c =
    let old = state g.S.Store c.args.tx.now.conn.now in
    let mid = state g.S.Store c.loop-change.tx.conn.now in
    let new = state g.S.Store c.write_change.new.tx.conn.now in
    let inv = c.loop-change.invariant in
    let all : Content → Type 0 = λ (x : Content). StopsInChanges (HasAbove c.args.last x) (written_changes c.args.changes.now) x in
    let error = c.in_err-write_change.field-0.0 in
    stops_same old new all error c.from_residual.result (search rules)
    (λ clean x d.
    let before : HasCleanDisk mid = omega (arith, clean, c.write_change.ensures.works.survives.clean) in
    let held = inv.stops before x d in
    let next = c.in-Some.ensures.some in
    stops_after all x (StopsAtChange (IsTrue c.is_new.result) c.in-Some.change.now) held.0 old mid new error inv.works c.write_change.ensures.works before
    (λ h. held.2 (subst (λ l. StopsInChanges (HasAbove c.args.last x) l held.0) (sym next.first)
    (inl (stops_unseen c.args.last c.loop-change.rest.now c.in-Some.remaining.now c.args.changes.now c.in-Some.change.now x held.0 c.is_new.result
    c.is_new.ensures next held.3 h))))
    (c.in_err-write_change.ensures.failed clean held.0 held.1))
