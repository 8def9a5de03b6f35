use Rattle.std.proofs.Common.{◌≡◌, inl, inr, Err, refl, rules, subst, sym, ◌∙◌}
use Rattle.std.specs.Prelude.{⊤}
use Rattle.sqlite.specs.Held.{state}
use Rattle.acd_book.specs.Content.{Content}
use Rattle.acd_book.specs.PrunedContent.{pruned}
use Rattle.acd_sqlbook.specs.Calls.{HasReplaced}
use Rattle.acd_sqlbook.proofs.Pruning.{prune_undone, prune_untried, replaces_tried, tried}
use Rattle.acd_sqlbook.proofs.AfterProbe.{reads_not, replaces_none, replaces_unasked}
use Rattle.acd_sqlbook.proofs.prune.prune_ready.Goals as goal

pub returns-in_err-refresh-clause-commits : goal.returns-in_err-refresh-clause-commits
returns-in_err-refresh-clause-commits g c =
    let old = state g.S.Store c.args.ready.now.conn in
    let mid = state g.S.Store c.refresh.new.self.conn in
    let e = c.in_err-refresh.field-0.0 in
    let is : c.from_residual.result ≡ Err e = search rules in
    subst (λ r. HasReplaced old mid r (λ (x : Content). ⊤) (pruned c.args.stamp c.args.number)) (sym is)
    (replaces_none old mid e (λ (x : Content) (found : Unit {0}). Unit {0}) (λ (x : Content). ⊤) (pruned c.args.stamp c.args.number)
    (reads_not old mid e (λ (x : Content) (found : Unit {0}). Unit {0}) c.refresh.ensures.quiet c.refresh.ensures.stops))

pub returns-clause-commits : goal.returns-clause-commits
returns-clause-commits g c =
    let e = c.prune_all.ensures in
    let old = state g.S.Store c.args.ready.now.conn in
    let mid = state g.S.Store c.refresh.new.self.conn in
    let new = state g.S.Store c.prune_all.new.conn in
    replaces_tried old mid new c.prune_all.result (λ (x : Content). ⊤) (pruned c.args.stamp c.args.number)
    (tried old mid c.refresh.ensures.quiet c.in_ok-refresh.ensures.up c.refresh.ensures.stops)
    (record { clean = e.clean; up = e.up; was = e.was; done = e.done; undone = e.undone; stops = e.stops })

pub returns-in_err-refresh-clause-cause : goal.returns-in_err-refresh-clause-cause
returns-in_err-refresh-clause-cause g c =
    prune_untried c.args.stamp c.args.number (state g.S.Store c.args.ready.now.conn) (state g.S.Store c.refresh.new.self.conn) c.in_err-refresh.field-0.0
    c.from_residual.result (search rules) c.in_err-refresh.ensures.cause

pub returns-clause-cause : goal.returns-clause-cause
returns-clause-cause g c =
    let old = state g.S.Store c.args.ready.now.conn in
    let mid = state g.S.Store c.refresh.new.self.conn in
    let new = state g.S.Store c.prune_all.new.conn in
    prune_undone c.args.stamp c.args.number old mid new c.prune_all.result
    (tried old mid c.refresh.ensures.quiet c.in_ok-refresh.ensures.up c.refresh.ensures.stops)
    c.in_ok-refresh.ensures.cause c.prune_all.ensures.clean c.prune_all.ensures.failed

pub returns-then-not-both_fit-clause-commits : goal.returns-then-not-both_fit-clause-commits
returns-then-not-both_fit-clause-commits g c =
    replaces_unasked (state g.S.Store c.args.ready.now.conn) c.too_large.result (Err c.too_large.result) (λ (x : Content). ⊤)
    (pruned c.args.stamp c.args.number) refl

pub returns-then-not-both_fit-clause-cause : goal.returns-then-not-both_fit-clause-cause
returns-then-not-both_fit-clause-cause g c clean x held =
    inr (inl (λ fit. absurd (let apart = sym (c.both_fit.ensures.1 fit) ∙ c.if-not-both_fit.true in cc)))
