use Rattle.std.proofs.Common.{◌≡◌, refl, subst, arith, rules, OnOk, OnErr, IsTrue, true}
use Rattle.sqlite.specs.State.{HasCleanDisk, KeepsCommit}
use Rattle.sqlite.specs.Held.{state}
use Rattle.acd_book.specs.Content.{Content}
use Rattle.acd_sqlbook.specs.Commit.{made_by}
use Rattle.acd_sql_columns.specs.Transactions.{HoldsContent, HoldsGood, AddsStop}
use Rattle.acd_sql_columns.proofs.Writes.TransactionEnds.{not_committed, begins, made_whole, adds_stop}
use Rattle.std.proofs.Common.{Err, IfErr, sym, ap, ◌∙◌}
use Rattle.acd_sql_columns.specs.Transactions.{Works}
use Rattle.acd_sqlbook.specs.CommitStops.{HasAbove, StopsInAll, FailsToApply}
use Rattle.acd_sqlbook.proofs.PartCauses.{still_stopped, commit_stopped}
use Rattle.acd_sqlbook.proofs.commit.commit_all.Goals as goal

pub write_all-requires-clause-free : goal.write_all-requires-clause-free
write_all-requires-clause-free g c = ap (λ h. (state g.S.Store h).step_limit) c.transaction-tx.ensures.begun ∙ c.requires.unlimited

pub returns-clause-done : goal.returns-clause-done
returns-clause-done g c clean =
    let old = state g.S.Store c.args.conn.now in
    let end = c.commit.new.self.0 in
    let mid = state g.S.Store c.write_all.new.tx.conn.now in
    let same : end ≡ c.conn-2-1.given.0 = search rules in
    let late : HasCleanDisk (state g.S.Store end) = rw same clean in
    let begun = c.transaction-tx.ensures.begun in
    let middle : HasCleanDisk mid = omega (arith, c.commit.ensures.survives.clean) in
    let made = made_by c.args.changes.now c.args.events.now c.args.kept.now c.args.meta.now in
    let put : (x : Content) → HoldsContent old x → HoldsGood mid (made x) =
    λ (x : Content) (h : HoldsContent old x). (rw begun at c.in_ok-write_all.ensures.put) middle x
    (begins old (state g.S.Store (record c.args.conn.now { in_transaction = true })) x refl refl h) in
    subst (λ h. OnOk c.commit.result ((x : Content) → HoldsContent old x → HoldsContent (state g.S.Store h) (made x))) same
    (made_whole old mid (state g.S.Store end) c.commit.result made put (c.commit.ensures.ok late))

pub returns-clause-undone : goal.returns-clause-undone
returns-clause-undone g c clean =
    let old = state g.S.Store c.args.conn.now in
    let end = c.commit.new.self.0 in
    let mid = state g.S.Store c.write_all.new.tx.conn.now in
    let same : end ≡ c.conn-2-1.given.0 = search rules in
    let late : HasCleanDisk (state g.S.Store end) = rw same clean in
    let begun = c.transaction-tx.ensures.begun in
    let middle : HasCleanDisk mid = omega (arith, c.commit.ensures.survives.clean) in
    let keeps = (rw begun at c.write_all.ensures.works).kept middle in
    let kept : KeepsCommit old mid = record { was_open = keeps.was_open; committed = keeps.committed } in
    let inside : (x : Content) → HoldsContent old x → mid.in_transaction ≡ true =
    λ (x : Content) (h : HoldsContent old x). ((rw begun at c.in_ok-write_all.ensures.put) middle x
    (begins old (state g.S.Store (record c.args.conn.now { in_transaction = true })) x refl refl h)).relations.inside in
    subst (λ h. OnErr c.commit.result ((x : Content) → HoldsContent old x → IsTrue (state g.S.Store h).is_open → HoldsContent (state g.S.Store h) x)) same
    (not_committed old mid (state g.S.Store end) c.commit.result kept inside (c.commit.ensures.err late))

pub returns-clause-stops : goal.returns-clause-stops
returns-clause-stops g c clean =
    let old = state g.S.Store c.args.conn.now in
    let end = c.commit.new.self.0 in
    let begun-state = state g.S.Store (record c.args.conn.now { in_transaction = true }) in
    let mid = state g.S.Store c.write_all.new.tx.conn.now in
    let same : end ≡ c.conn-2-1.given.0 = search rules in
    let late : HasCleanDisk (state g.S.Store end) = rw same clean in
    let begun = c.transaction-tx.ensures.begun in
    let middle : HasCleanDisk mid = omega (arith, c.commit.ensures.survives.clean) in
    let made = made_by c.args.changes.now c.args.events.now c.args.kept.now c.args.meta.now in
    let put : (x : Content) → HoldsContent old x → HoldsGood mid (made x) =
    λ (x : Content) (h : HoldsContent old x). (rw begun at c.in_ok-write_all.ensures.put) middle x (begins old begun-state x refl refl h) in
    subst (λ h. AddsStop old (state g.S.Store h) made) same
    (adds_stop old begun-state mid (state g.S.Store end) made (λ db left. left) (rw begun at c.write_all.ensures.works).survives c.commit.ensures.survives put
    middle late)

pub returns-in_err-write_all-clause-failed : goal.returns-in_err-write_all-clause-failed
returns-in_err-write_all-clause-failed g c clean x held =
    let old = state g.S.Store c.args.conn.now in
    let begun = state g.S.Store (record c.args.conn.now { in_transaction = true }) in
    let made = state g.S.Store c.write_all.new.tx.conn.now in
    let end = c.drop-tx.new.self.0 in
    let same : end ≡ c.conn-1.given.0 = search rules in
    let late : HasCleanDisk (state g.S.Store end) = rw same clean in
    let early : HasCleanDisk made = omega (arith, late, c.drop-tx.ensures.survives.clean) in
    let begin = c.transaction-tx.ensures.begun in
    let is : c.from_residual.result ≡ Err c.in_err-write_all.field-0.0 = search rules in
    let stops : Content → Type 0 =
    λ (x : Content). StopsInAll (HasAbove c.args.last x) c.args.changes.now c.args.events.now c.args.kept.now c.args.meta.now x in
    subst (λ h. IfErr c.from_residual.result (FailsToApply stops x old (state g.S.Store h))) same
    (subst (λ r. IfErr r (FailsToApply stops x old (state g.S.Store end))) (sym is)
    (still_stopped stops x begun made (state g.S.Store end) c.in_err-write_all.field-0.0 c.drop-tx.ensures.survives.counts
    ((rw begin at c.in_err-write_all.ensures.failed) early x (begins old begun x refl refl held))))

pub returns-clause-failed : goal.returns-clause-failed
returns-clause-failed g c clean x held =
    let old = state g.S.Store c.args.conn.now in
    let begun = state g.S.Store (record c.args.conn.now { in_transaction = true }) in
    let mid = state g.S.Store c.write_all.new.tx.conn.now in
    let end = c.commit.new.self.0 in
    let same : end ≡ c.conn-2-1.given.0 = search rules in
    let late : HasCleanDisk (state g.S.Store end) = rw same clean in
    let middle : HasCleanDisk mid = omega (arith, late, c.commit.ensures.survives.clean) in
    let begin = c.transaction-tx.ensures.begun in
    let works : Works begun mid = rw begin at c.write_all.ensures.works in
    let stops : Content → Type 0 =
    λ (x : Content). StopsInAll (HasAbove c.args.last x) c.args.changes.now c.args.events.now c.args.kept.now c.args.meta.now x in
    let uncommitted = (rw begin at c.in_ok-write_all.ensures.put) middle x (begins old begun x refl refl held) in
    subst (λ h. IfErr c.commit.result (FailsToApply stops x old (state g.S.Store h))) same
    (commit_stopped stops x begun mid (state g.S.Store end) c.commit.result works middle c.commit.ensures.survives.counts uncommitted.relations.inside
    (c.commit.ensures.err late))
