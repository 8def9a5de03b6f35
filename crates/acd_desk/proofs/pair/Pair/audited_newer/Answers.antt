use Rattle.std.proofs.Common.{◌≡◌, ◌+◌, ◌≤◌, ◌∙◌, ℕ, ap, sym, subst, refl, rules, arith}
use Rattle.acd_terms.specs.declared.rows.Limits.{Limits}
use Rattle.acd_terms.specs.declared.rows.Rows.{Rows}
use Rattle.acd_desk.specs.Audits.ReplayWith.{CountsOneWith}
use Rattle.acd_desk.proofs.Archives.BothReads.{both_then_fault, current_read}
use Rattle.acd_desk.proofs.Archives.ArchiveReplaySteps.{newer_begun, newer_more, newer_ended, newer_left}
use Rattle.acd_desk.proofs.pair.Pair.audited_newer.Goals as goal

pub loop-init : goal.loop-init
loop-init g c = record {
  same = (refl, refl);
  stamp = sym (c.last_stamp-start.ensures ∙ ap (λ (r : Rows). r.last_stamp) c.deref.ensures);
  limit = sym (ap (λ (l : Limits). l.requests) (c.limits-most.ensures ∙ ap (λ (r : Rows). r.limits) (c.tables.ensures ∙ c.deref-2.ensures)));
  seen = newer_begun;
}

pub loop-preserved : goal.loop-preserved
loop-preserved g c =
    let counts = subst (CountsOneWith c.loop.newer.replay.loaded.switch.value) c.in-Replayed.is c.in_ok-next.ensures.counts in
    record {
      same = (c.in_ok-next.ensures.same.0 ∙ c.loop.invariant.same.0, c.in_ok-next.ensures.same.1 ∙ c.loop.invariant.same.1);
      stamp = counts.1 ∙ ap (λ (n : ℕ). n + 1) c.loop.invariant.stamp;
      limit = ap (λ (l : Limits). l.requests) counts.0 ∙ c.loop.invariant.limit;
      seen = newer_more c.in-Replayed.is c.loop.invariant.seen c.in_ok-next.ensures.read;
    }

pub returns-in-Ended-clause-read : goal.returns-in-Ended-clause-read
returns-in-Ended-clause-read g c = newer_ended c.in-Ended.is c.loop.invariant.seen c.in_ok-next.ensures.read

pub returns-in_err-next-clause-read : goal.returns-in_err-next-clause-read
returns-in_err-next-clause-read g c = both_then_fault c.loop.invariant.seen c.in_err-next.ensures.read (search rules)

pub returns-in_err-all-clause-read : goal.returns-in_err-all-clause-read
returns-in_err-all-clause-read g c = both_then_fault c.loop.invariant.seen (current_read c.is_all.ensures c.in_err-all.ensures) (search rules)

at_limit : (s : Rows) (count most : ℕ) → s.last_stamp ≡ count → s.limits.requests ≡ most → most ≤ count → s.limits.requests ≤ s.last_stamp
at_limit s count most stamp limit le = omega (arith, stamp, limit, le)

pub returns-clause-read : goal.returns-clause-read
returns-clause-read g c =
    newer_left c.deref-3.ensures c.answer_at_end.ensures
    (at_limit c.loop.newer.replay.loaded.switch.value c.loop.counter _ c.loop.invariant.stamp c.loop.invariant.limit c.loop-test.false)
    c.loop.invariant.seen (current_read c.is_all.ensures c.in_ok-all.ensures)
