use Rattle.acd_log.proofs.LogFrames.{part_between}
use Rattle.acd_log.proofs.be32.part_of.Goals as goal

pub returns-clause-value : goal.returns-clause-value
returns-clause-value c = part_between c.args.bytes.now c.args.at c.args.len
