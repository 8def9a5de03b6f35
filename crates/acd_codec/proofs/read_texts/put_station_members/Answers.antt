use Rattle.std.proofs.Common.{sym}
use Rattle.acd_codec.proofs.TokensInTurn.{adds_then}
use Rattle.acd_codec.proofs.read_texts.put_station_members.Goals as goal

pub returns : goal.returns
returns c =
    let r = c.put_text.result in
    let end = c.put_text.new.out in
    let kind = adds_then r c.put_list.new.out c.put_device.new.out end _ _ c.in_ok-put_device.ensures c.put_text.ensures in
    let lines = adds_then r c.put_agent.new.out c.put_list.new.out end _ _ c.in_ok-put_list.ensures kind in
    rw (sym c.as_slice.ensures) (adds_then r c.args.out.now c.put_agent.new.out end _ _ c.in_ok-put_agent.ensures lines)
