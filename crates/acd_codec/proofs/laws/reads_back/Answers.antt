use Rattle.acd_codec.proofs.RoundTrip.{reads_back}
use Rattle.acd_codec.proofs.laws.reads_back.Goals as goal

pub returns : goal.returns
returns c = reads_back c.args.request.now c.request_formed.ensures
