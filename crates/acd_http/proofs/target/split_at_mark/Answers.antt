use Rattle.std.proofs.Common.{◌+◌, ◌++◌, List, ℕ, take, sym, ap, ◌∙◌, arith, append-nil}
use Rattle.acd_http.proofs.Steps.{before_here, after_here, before_later, after_later, before_end, after_end, to_end}
use Rattle.acd_http.proofs.target.split_at_mark.Goals as goal

pub returns-then-bytes-i-eq63-clause-before : goal.returns-then-bytes-i-eq63-clause-before
returns-then-bytes-i-eq63-clause-before c =
    let bytes = c.args.bytes.now in
    let i = c.loop-i.i in
    sym (append-nil (take i bytes)) ∙ ap (λ (l : List ℕ). take i bytes ++ l) (sym (before_here bytes i c.loop-i-test.true c.if-bytes-i-eq63.true)) ∙ c.loop-i.invariant.before

pub returns-then-bytes-i-eq63-clause-after : goal.returns-then-bytes-i-eq63-clause-after
returns-then-bytes-i-eq63-clause-after c =
    let bytes = c.args.bytes.now in
    let i = c.loop-i.i in
    to_end bytes (i + 1) (omega (arith, c.loop-i-test.true)) ∙ sym (after_here bytes i c.loop-i-test.true c.if-bytes-i-eq63.true) ∙ c.loop-i.invariant.after

pub loop-i-preserved : goal.loop-i-preserved
loop-i-preserved c = record {
  before = before_later c.args.bytes.now c.loop-i.i c.loop-i-test.true c.if-bytes-i-eq63.false ∙ c.loop-i.invariant.before;
  after = after_later c.args.bytes.now c.loop-i.i c.loop-i-test.true c.if-bytes-i-eq63.false ∙ c.loop-i.invariant.after;
}

pub returns-clause-before : goal.returns-clause-before
returns-clause-before c = sym (before_end c.args.bytes.now c.loop-i.i c.loop-i-test.false) ∙ c.loop-i.invariant.before

pub returns-clause-after : goal.returns-clause-after
returns-clause-after c = sym (after_end c.args.bytes.now c.loop-i.i c.loop-i-test.false) ∙ c.loop-i.invariant.after
