use Rattle.std.proofs.Common.{sym, ◌∙◌}
use Rattle.acd_sqlbook.proofs.ElidedPuts.{written_second}
use Rattle.acd_sqlbook.proofs.commit.next_statement.Goals as goal

pub returns-then-is_removed_next-clause-some : goal.returns-then-is_removed_next-clause-some
returns-then-is_removed_next-clause-some c =
    written_second c.args.changes.now c.in_ok-first.first.now c.in_ok-first.remaining.now c.in_ok-first.ensures.cases.0 c.in-Some.second.now c.in-Some.rest.now
    c.in-Some.ensures.cases.0
    (sym c.is_removed_next.ensures.is ∙ c.if-is_removed_next.true) (c.is_removed_next.ensures.vain c.if-is_removed_next.true)
