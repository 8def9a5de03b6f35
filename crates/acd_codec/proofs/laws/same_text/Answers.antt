use Rattle.std.proofs.Common.{ap}
use Rattle.acd_codec.specs.RequestTexts.{request_text}
use Rattle.acd_codec.proofs.RoundTrip.{same_request}
use Rattle.acd_codec.proofs.laws.same_text.Goals as goal

pub returns : goal.returns
returns c = (same_request c.args.a.now c.args.b.now c.request_formed.ensures c.request_formed-2.ensures, ap request_text)
