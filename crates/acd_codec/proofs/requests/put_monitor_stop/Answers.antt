use Rattle.acd_codec.proofs.TokensInTurn.{adds_then}
use Rattle.acd_codec.proofs.requests.put_monitor_stop.Goals as goal

pub returns : goal.returns
returns c =
    let r = c.put_service.result in
    let end = c.put_service.new.out in
    let requester = adds_then r c.put_serial.new.out c.put_requester.new.out end _ _ c.in_ok-put_requester.ensures c.put_service.ensures in
    let monitor = adds_then r c.put_invoke.new.out c.put_serial.new.out end _ _ c.in_ok-put_serial.ensures requester in
    adds_then r c.args.out.now c.put_invoke.new.out end _ _ c.in_ok-put_invoke.ensures monitor
