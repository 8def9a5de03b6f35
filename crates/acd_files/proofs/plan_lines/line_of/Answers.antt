use Rattle.std.proofs.Common.{sym, ◌∙◌}
use Rattle.acd_files.proofs.LineOf.{line_hit, line_miss}
use Rattle.acd_files.proofs.plan_lines.line_of.Goals as goal

pub returns-then-place-wanted : goal.returns-then-place-wanted
returns-then-place-wanted c = sym (c.loop-byte.invariant ∙ line_hit _ _ _ _ _ 0 c.loop-byte-test.true c.after-place.ensures c.if-place-wanted.true)

pub loop-byte-preserved : goal.loop-byte-preserved
loop-byte-preserved c = c.loop-byte.invariant ∙ line_miss _ _ _ _ _ 0 c.loop-byte-test.true c.after-place.ensures c.if-place-wanted.false
