use Rattle.acd_codec.proofs.TokensInTurn.{adds_then}
use Rattle.acd_codec.proofs.requests.put_to_device.Goals as goal

pub returns : goal.returns
returns c = adds_then c.put_device.result c.args.out.now c.put_at_connection.new.out c.put_device.new.out _ _ c.in_ok-put_at_connection.ensures c.put_device.ensures
