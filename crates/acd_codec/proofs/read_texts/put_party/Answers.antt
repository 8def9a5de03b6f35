use Rattle.std.proofs.Common.{◌≡◌, rules, sym, ap, ◌∙◌}
use Rattle.acd_codec.specs.ReadTexts.{in_full}
use Rattle.acd_codec.proofs.TokensInTurn.{adds_then}
use Rattle.acd_codec.proofs.read_texts.put_party.Goals as goal

pub returns : goal.returns
returns c =
    let offered : c.map.result ≡ c.args.connection.now.offered = search rules in
    let queued : c.map-2.result ≡ c.args.connection.now.queued = search rules in
    let r = c.put_text.result in
    let end = c.put_text.new.out in
    let waits = adds_then r c.put_number_if-2.new.out c.put_number_if-3.new.out end _ _ c.in_ok-put_number_if-3.ensures c.put_text.ensures in
    let stands = adds_then r c.put_number_if.new.out c.put_number_if-2.new.out end _ _ c.in_ok-put_number_if-2.ensures waits in
    let rings = adds_then r c.put_device-2.new.out c.put_number_if.new.out end _ _ c.in_ok-put_number_if.ensures stands in
    let from = adds_then r c.put_device.new.out c.put_device-2.new.out end _ _ c.in_ok-put_device-2.ensures rings in
    rw (
      sym c.distributed_from.ensures,
      sym (c.in_full.ensures ∙ ap (in_full c.args.extent) offered),
      sym c.in_full-2.ensures,
      sym (c.in_full-3.ensures ∙ ap (in_full c.args.extent) queued),
      sym c.state_name.ensures,
    ) (adds_then r c.args.out.now c.put_device.new.out end _ _ c.in_ok-put_device.ensures from)
