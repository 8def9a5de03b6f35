use Rattle.std.proofs.Common.{◌≡◌, rules, sym}
use Rattle.acd_codec.proofs.TokensInTurn.{adds_then, adds_last}
use Rattle.acd_codec.proofs.snapshots.put_snapshot.Goals as goal

pub returns : goal.returns
returns c =
    let moment : c.from.result ≡ c.args.snapshot.now.moment = search rules in
    let r = c.put_list-5.result in
    let end = c.put_list-5.new.out in
    let monitors = adds_then r c.put_number-2.new.out c.put_list-4.new.out end _ _ c.in_ok-put_list-4.ensures (adds_last r c.put_list-4.new.out end _ c.put_list-5.ensures) in
    let at = adds_then r c.put_number.new.out c.put_number-2.new.out end _ _ c.in_ok-put_number-2.ensures monitors in
    let last = adds_then r c.put_list-3.new.out c.put_number.new.out end _ _ c.in_ok-put_number.ensures at in
    let groups = adds_then r c.put_list-2.new.out c.put_list-3.new.out end _ _ c.in_ok-put_list-3.ensures last in
    let calls = adds_then r c.put_list.new.out c.put_list-2.new.out end _ _ c.in_ok-put_list-2.ensures groups in
    rw (sym moment, sym c.as_slice.ensures, sym c.as_slice-2.ensures, sym c.as_slice-3.ensures, sym c.as_slice-4.ensures, sym c.as_slice-5.ensures)
    (adds_then r c.args.out.now c.put_list.new.out end _ _ c.in_ok-put_list.ensures calls)
