use Rattle.std.proofs.Common.{◌≡◌, ℕ, ◌+◌, Bool, false, refl, sym, subst, arith}
use Rattle.std.proofs.lemmas.Bool.{false≢true}
use Rattle.acd_log.proofs.LogFrames.{Looking, salted, looking_begun, looking_past, looking_on, looking_done, looking_ends, none_after}
use Rattle.acd_log.proofs.frames.is_before_commit.Goals.{then-is_salted+else-is_committed, else-is_salted}
use Rattle.acd_log.proofs.frames.is_before_commit.Goals as goal

pub returns-then-not-has_frame : goal.returns-then-not-has_frame
returns-then-not-has_frame c n place = (
  λ no'. absurd (false≢true no'),
  λ b. absurd (none_after c.args.page c.args.log.now n c.args.bad place (λ within. false≢true (c.if-not-has_frame.ensures.1 within)) b),
)

pub loop-page-init : goal.loop-page-init
loop-page-init c n place =
    let same : c.args.bad + (24 + c.args.page) ≡ c.args.bad + 24 + c.args.page = omega arith in
    subst (λ (at : ℕ). Looking c.args.page c.args.log.now n at false) same (looking_begun c.args.page c.args.log.now n c.args.bad place)

pub returns-then-is_committed : goal.returns-then-is_committed
returns-then-is_committed c n place =
    let h = c.loop-page.invariant n place in
    let here = (salted c.args.page c.args.log.now h.next c.loop-page.at c.requires.long h.place (c.loop-page-test.ensures.0 refl)).0 (c.if-is_salted.ensures.0 refl) in
    (λ yes'. looking_done c.args.page c.args.log.now n c.loop-page.at c.loop-page.is_committed c.if-is_committed.true h here, λ b. refl)

pub loop-page-preserved : goal.loop-page-preserved
loop-page-preserved c n place =
    let h = c.loop-page.invariant n place in
    let decides = salted c.args.page c.args.log.now h.next c.loop-page.at c.requires.long h.place (c.loop-page-test.ensures.0 refl) in
    elim (c.if-is_salted.branch) [
      | then-is_salted+else-is_committed w ↦
          subst (λ (b : Bool). Looking c.args.page c.args.log.now n (c.loop-page.at + (24 + c.args.page)) b) (sym w.is_committed-is)
          (looking_on c.args.page c.args.log.now n c.loop-page.at c.loop-page.is_committed w.is_last-is_committed.result w.if-is_committed.false h (decides.0 (w.if-is_salted.ensures.0 refl)) w.is_last-is_committed.ensures)
      | else-is_salted w ↦
          subst (λ (b : Bool). Looking c.args.page c.args.log.now n (c.loop-page.at + (24 + c.args.page)) b) (sym w.is_committed-is)
          (looking_past c.args.page c.args.log.now n c.loop-page.at c.loop-page.is_committed h (λ it. false≢true (w.if-is_salted.ensures.1 (decides.1 it))))
    ]

pub returns : goal.returns
returns c n place = (
  λ no'. absurd (false≢true no'),
  λ b. absurd (looking_ends c.args.page c.args.log.now n c.loop-page.at c.loop-page.is_committed (c.loop-page.invariant n place) (λ within. false≢true (c.loop-page-test.ensures.1 within)) b),
)
