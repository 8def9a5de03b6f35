use Rattle.std.proofs.Common.{sym}
use Rattle.acd_codec.proofs.TokensInTurn.{adds_then}
use Rattle.acd_codec.proofs.read_texts.put_group_first.Goals as goal

pub returns : goal.returns
returns c =
    let r = c.put_text.result in
    let end = c.put_text.new.out in
    let entered = adds_then r c.put_device.new.out c.put_number_if-3.new.out end _ _ c.in_ok-put_number_if-3.ensures c.put_text.ensures in
    let at = adds_then r c.put_number_if-2.new.out c.put_device.new.out end _ _ c.in_ok-put_device.ensures entered in
    let answered = adds_then r c.put_number_if.new.out c.put_number_if-2.new.out end _ _ c.in_ok-put_number_if-2.ensures at in
    rw (sym c.in_full.ensures, sym c.in_full-2.ensures, sym c.in_full-3.ensures) (adds_then r c.args.out.now c.put_number_if.new.out end _ _ c.in_ok-put_number_if.ensures answered)
