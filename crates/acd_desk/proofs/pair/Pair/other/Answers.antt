use Rattle.std.proofs.Common.{rules, refl, ◌∙◌}
use Rattle.acd_desk.proofs.Archives.BothReads.{both_then_fault}
use Rattle.acd_desk.proofs.Archives.Overlaps.{next_read, shares_start, shares_next, shares_other, shares_over, shares_whole}
use Rattle.acd_desk.proofs.pair.Pair.other.Goals as goal

pub loop-init : goal.loop-init
loop-init g c = record { same = (refl, refl); shares = shares_start c.empty-pages.ensures }

pub loop-preserved : goal.loop-preserved
loop-preserved g c = record {
  same = (c.in_ok-next.ensures.same.0 ∙ c.loop.invariant.same.0, c.in_ok-next.ensures.same.1 ∙ c.loop.invariant.same.1);
  shares = shares_next (next_read g.T.Placed.kind c.loop.pages c.next.new.self c.in-Same.is c.loop.invariant.shares c.in_ok-next.ensures.read);
}

pub returns-in-Other-clause-read : goal.returns-in-Other-clause-read
returns-in-Other-clause-read g c =
    shares_other (next_read g.T.Placed.kind c.loop.pages c.next.new.self c.in-Other.is c.loop.invariant.shares c.in_ok-next.ensures.read)

pub returns-in-Over-clause-read : goal.returns-in-Over-clause-read
returns-in-Over-clause-read g c =
    shares_over (next_read g.T.Placed.kind c.loop.pages c.next.new.self c.in-Over.is c.loop.invariant.shares c.in_ok-next.ensures.read)

pub returns-clause-read : goal.returns-clause-read
returns-clause-read g c = shares_whole c.loop-test.false c.loop.invariant.shares

pub returns-in_err-next-clause-read : goal.returns-in_err-next-clause-read
returns-in_err-next-clause-read g c = both_then_fault c.loop.invariant.shares c.in_err-next.ensures.read (search rules)
