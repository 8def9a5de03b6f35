use Rattle.acd_codec.proofs.TokensInTurn.{adds_then}
use Rattle.acd_codec.proofs.requests.put_set_group_priority.Goals as goal

pub returns : goal.returns
returns c =
    let r = c.put_service.result in
    let end = c.put_service.new.out in
    let requester = adds_then r c.put_priority.new.out c.put_requester.new.out end _ _ c.in_ok-put_requester.ensures c.put_service.ensures in
    let priority = adds_then r c.put_invoke.new.out c.put_priority.new.out end _ _ c.in_ok-put_priority.ensures requester in
    let invoke = adds_then r c.put_device.new.out c.put_invoke.new.out end _ _ c.in_ok-put_invoke.ensures priority in
    adds_then r c.args.out.now c.put_device.new.out end _ _ c.in_ok-put_device.ensures invoke
