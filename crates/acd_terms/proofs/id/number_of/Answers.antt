use Rattle.std.proofs.Common.{arith}
use Rattle.acd_terms.proofs.Identifiers.{next_value, bounded, digit_at}
use Rattle.acd_terms.proofs.id.number_of.Goals as goal

pub overflow_mul-number : goal.overflow_mul-number
overflow_mul-number c = let small = bounded c.args.digits.now c.loop-b.b-index c.loop-b.number c.loop-b-test.true c.requires.short c.requires.all c.loop-b.invariant in omega arith

pub overflow_sub-b : goal.overflow_sub-b
overflow_sub-b c = let d = digit_at c.args.digits.now c.loop-b.b-index c.loop-b-test.true c.requires.all in omega arith

pub overflow_add-number : goal.overflow_add-number
overflow_add-number c = let small = bounded c.args.digits.now c.loop-b.b-index c.loop-b.number c.loop-b-test.true c.requires.short c.requires.all c.loop-b.invariant in
    let d = digit_at c.args.digits.now c.loop-b.b-index c.loop-b-test.true c.requires.all in omega arith

pub loop-b-preserved : goal.loop-b-preserved
loop-b-preserved c = next_value c.args.digits.now c.loop-b.b-index c.loop-b.number c.from.result c.loop-b-test.true c.requires.all c.loop-b.invariant c.from.ensures
