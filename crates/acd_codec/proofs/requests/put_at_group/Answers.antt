use Rattle.acd_codec.proofs.TokensInTurn.{adds_then}
use Rattle.acd_codec.proofs.requests.put_at_group.Goals as goal

pub returns : goal.returns
returns c =
    let r = c.put_seconds-2.result in
    let end = c.put_seconds-2.new.out in
    let service = adds_then r c.put_seconds.new.out c.put_service.new.out end _ _ c.in_ok-put_service.ensures c.put_seconds-2.ensures in
    let ring = adds_then r c.put_named.new.out c.put_seconds.new.out end _ _ c.in_ok-put_seconds.ensures service in
    let named = adds_then r c.put_device.new.out c.put_named.new.out end _ _ c.in_ok-put_named.ensures ring in
    adds_then r c.args.out.now c.put_device.new.out end _ _ c.in_ok-put_device.ensures named
