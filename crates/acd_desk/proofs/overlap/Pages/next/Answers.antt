use Rattle.acd_desk.proofs.Archives.BothReads.{both_and, both_archive, both_current}
use Rattle.acd_desk.proofs.Archives.Overlaps.{next_shown}
use Rattle.acd_desk.proofs.overlap.Pages.next.Goals as goal

pub returns-clause-read : goal.returns-clause-read
returns-clause-read g c =
    next_shown g.T.Placed.kind c.args.above c.args.last c.args.self.now (record { archive = c.reach.new.self; current = c.reach-2.new.self })
    c.next.ensures c.next-2.ensures c.next_of.ensures
    (both_and (both_archive c.reach.ensures c.in_ok-of_archive.ensures) (both_current c.reach-2.ensures c.in_ok-of_current.ensures))
