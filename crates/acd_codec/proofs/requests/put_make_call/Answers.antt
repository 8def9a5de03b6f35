use Rattle.acd_codec.proofs.TokensInTurn.{adds_then}
use Rattle.acd_codec.proofs.requests.put_make_call.Goals as goal

pub returns : goal.returns
returns c = adds_then c.put_at_device.result c.args.out.now c.put_device.new.out c.put_at_device.new.out _ _ c.in_ok-put_device.ensures c.put_at_device.ensures
