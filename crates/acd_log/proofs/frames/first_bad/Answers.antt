use Rattle.std.proofs.Common.{ℕ, ◌+◌, refl, sym, subst}
use Rattle.acd_log.proofs.LogFrames.{Good, good_begun, good_on}
use Rattle.acd_log.proofs.frames.first_bad.Goals as goal

pub loop-before-init : goal.loop-before-init
loop-before-init c = subst (λ (s : ℕ × ℕ). Good c.args.page c.args.log.now s 32) (sym c.sum_at-before.ensures) (good_begun c.args.page c.args.log.now)

pub loop-before-preserved : goal.loop-before-preserved
loop-before-preserved c =
    let here = c.loop-before-test.ensures.0 refl in
    subst (λ (s : ℕ × ℕ). Good c.args.page c.args.log.now s (c.loop-before.at + (24 + c.args.page))) (sym c.sum_at-before-in-loop-before.ensures)
    (good_on c.args.page c.args.log.now c.loop-before.before c.loop-before.at c.loop-before.invariant here.0 here.1)
