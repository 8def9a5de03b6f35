use Rattle.acd_codec.proofs.TokensInTurn.{adds_then}
use Rattle.acd_codec.proofs.snapshots.put_monitor.Goals as goal

pub returns : goal.returns
returns c =
    let r = c.put_number-2.result in
    let end = c.put_number-2.new.out in
    let at = adds_then r c.put_number.new.out c.put_device.new.out end _ _ c.in_ok-put_device.ensures c.put_number-2.ensures in
    adds_then r c.args.out.now c.put_number.new.out end _ _ c.in_ok-put_number.ensures at
