use Rattle.acd_codec.proofs.OldReadings.{reads_the_same}
use Rattle.acd_codec.proofs.laws.old_reads_the_same.Goals as goal

pub returns : goal.returns
returns c = reads_the_same
