use Rattle.acd_codec.proofs.TokensInTurn.{adds_then}
use Rattle.acd_codec.proofs.requests.put_arrive_call.Goals as goal

pub returns : goal.returns
returns c =
    let r = c.put_sent.result in
    let end = c.put_sent.new.out in
    let caller = adds_then r c.put_device.new.out c.put_device-2.new.out end _ _ c.in_ok-put_device-2.ensures c.put_sent.ensures in
    adds_then r c.args.out.now c.put_device.new.out end _ _ c.in_ok-put_device.ensures caller
