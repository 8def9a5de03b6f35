use Rattle.std.proofs.Common.{◌≡◌, ◌+◌, ◌≤◌, ℕ, ap, subst, ◌∙◌, arith}
use Rattle.acd_terms.specs.declared.rows.Limits.{Limits}
use Rattle.acd_desk.specs.Audits.Replay.{CountsOne}
use Rattle.acd_desk.proofs.Replays.AuditSteps.{seen_more, seen_all, seen_rest}
use Rattle.acd_desk.proofs.replay.audited.Goals as goal

pub loop-count-preserved : goal.loop-count-preserved
loop-count-preserved g c =
    let counts = subst (CountsOne c.loop-count.replay.loaded.switch.value) c.in-Replayed.is c.in_ok-next.ensures.counts in
    record {
      stamp = counts.1 ∙ ap (λ (n : ℕ). n + 1) c.loop-count.invariant.stamp;
      limit = ap (λ (l : Limits). l.requests) counts.0 ∙ c.loop-count.invariant.limit;
      seen =
          seen_more (g.B.Book.state c.args.book.now) (g.B.Book.state c.loop-count.book) (g.B.Book.state c.next.new.book) c.loop-count.replay
          c.in_ok-next.field-0 c.in-Replayed.next c.in-Replayed.is c.loop-count.invariant.seen c.in_ok-next.ensures.read;
    }

pub returns-then-all : goal.returns-then-all
returns-then-all g c =
    seen_all (g.B.Book.state c.args.book.now) (g.B.Book.state c.loop-count.book) (g.B.Book.state c.is_all.new.book) c.loop-count.replay _ c.in_ok-all.all
    c.deref-2.ensures c.if-all.true c.loop-count.invariant.seen c.in_ok-all.ensures

at_end : (n most : ℕ) → n ≤ most → most ≤ n → n ≡ most
at_end n most le more = omega (arith, le, more)

pub returns : goal.returns
returns g c =
    seen_rest (g.B.Book.state c.args.book.now) (g.B.Book.state c.loop-count.book) (g.B.Book.state c.is_all.new.book) c.loop-count.replay _ _
    c.in_ok-all.all c.deref-2.ensures (c.loop-count.invariant.stamp ∙ at_end _ _ c.loop-count.auto.count-end c.loop-count-test.false)
    c.loop-count.invariant.limit c.if-all.false c.loop-count.invariant.seen c.in_ok-all.ensures
