use Rattle.std.proofs.Common.{sym, ◌∙◌}
use Rattle.acd_program.proofs.Occurs.{hit_at, miss_at}
use Rattle.acd_program.proofs.reasons.has.Goals as goal

pub returns-then-starts_with : goal.returns-then-starts_with
returns-then-starts_with c =
    sym (c.loop-start.invariant ∙ hit_at c.args.text.now c.args.bytes.now c.loop-start.start c.loop-start-test.true (sym c.starts_with.ensures.value ∙ c.if-starts_with.true))

pub loop-start-preserved : goal.loop-start-preserved
loop-start-preserved c =
    c.loop-start.invariant ∙ miss_at c.args.text.now c.args.bytes.now c.loop-start.start c.loop-start-test.true (sym c.starts_with.ensures.value ∙ c.if-starts_with.false)
