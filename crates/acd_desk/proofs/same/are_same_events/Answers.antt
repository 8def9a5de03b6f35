use Rattle.acd_lemmas.proofs.SameRecords.{events_decided}
use Rattle.acd_desk.proofs.same.are_same_events.Goals as goal

pub returns : goal.returns
returns c = events_decided c.args.a.now c.args.b.now c.eq.result c.eq.ensures
