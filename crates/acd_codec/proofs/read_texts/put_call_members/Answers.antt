use Rattle.std.proofs.Common.{◌≡◌, rules, sym}
use Rattle.acd_codec.proofs.TokensInTurn.{adds_then}
use Rattle.acd_codec.proofs.read_texts.put_call_members.Goals as goal

pub returns : goal.returns
returns c =
    let same : c.from.result ≡ c.args.call.now.since = search rules in
    let r = c.put_number-2.result in
    let end = c.put_number-2.new.out in
    let since = adds_then r c.put_device-2.new.out c.put_parties.new.out end _ _ c.in_ok-put_parties.ensures c.put_number-2.ensures in
    let from = adds_then r c.put_device.new.out c.put_device-2.new.out end _ _ c.in_ok-put_device-2.ensures since in
    let from_device = adds_then r c.put_number.new.out c.put_device.new.out end _ _ c.in_ok-put_device.ensures from in
    rw (sym same) (adds_then r c.args.out.now c.put_number.new.out end _ _ c.in_ok-put_number.ensures from_device)
