use Rattle.std.proofs.Common.{sym}
use Rattle.acd_codec.proofs.TokensInTurn.{adds_then}
use Rattle.acd_codec.proofs.read_texts.put_group_last.Goals as goal

pub returns : goal.returns
returns c =
    let r = c.put_seconds-2.result in
    let end = c.put_seconds-2.new.out in
    let waited = adds_then r c.put_seconds.new.out c.put_number_if-3.new.out end _ _ c.in_ok-put_number_if-3.ensures c.put_seconds-2.ensures in
    let times = adds_then r c.put_number_if-2.new.out c.put_seconds.new.out end _ _ c.in_ok-put_seconds.ensures waited in
    let ranked = adds_then r c.put_text.new.out c.put_number_if-2.new.out end _ _ c.in_ok-put_number_if-2.ensures times in
    let named = adds_then r c.put_number_if.new.out c.put_text.new.out end _ _ c.in_ok-put_text.ensures ranked in
    rw (sym c.in_full.ensures, sym c.above_0.ensures, sym c.in_full-2.ensures, sym c.as_str.ensures.value) (adds_then r c.args.out.now c.put_number_if.new.out end _ _ c.in_ok-put_number_if.ensures named)
