use Rattle.std.proofs.Common.{sym, ◌∙◌}
use Rattle.acd_files.proofs.ShownLines.{shown_full, shown_more, shown_all}
use Rattle.acd_files.proofs.plan_lines.first_line.Goals as goal

pub returns-then-ends_before : goal.returns-then-ends_before
returns-then-ends_before c = shown_full _ _ 0 _ c.loop-byte.invariant c.loop-byte-test.true (sym c.ends_before.ensures ∙ c.if-ends_before.true)

pub loop-byte-preserved : goal.loop-byte-preserved
loop-byte-preserved c = shown_more _ _ 0 _ c.loop-byte.invariant _ c.loop-byte-test.true (sym c.ends_before.ensures ∙ c.if-ends_before.false) c.in_ok-push_shown.ensures

pub returns : goal.returns
returns c = shown_all _ _ _ c.loop-byte.invariant c.loop-byte-test.false
