use Rattle.acd_desk.proofs.Contents.SameKept.{kept_decided}
use Rattle.acd_desk.proofs.placed.KeptPlaced.is_same.Goals as goal

pub returns : goal.returns
returns c = kept_decided c.args.self.now c.args.other.now c.eq.result c.eq.ensures
