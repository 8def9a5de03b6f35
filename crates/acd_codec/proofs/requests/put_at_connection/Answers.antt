use Rattle.acd_codec.proofs.TokensInTurn.{adds_then}
use Rattle.acd_codec.proofs.requests.put_at_connection.Goals as goal

pub returns : goal.returns
returns c = adds_then c.put_at_device.result c.args.out.now c.put_serial.new.out c.put_at_device.new.out _ _ c.in_ok-put_serial.ensures c.put_at_device.ensures
