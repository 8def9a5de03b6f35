use Rattle.std.proofs.Common.{[], ◌∷◌}
use Rattle.json.specs.Token.{key, begin_array, end_array}
use Rattle.acd_codec.proofs.TokensInTurn.{wrote, wrote_ok, and_then, list_added}
use Rattle.acd_codec.proofs.writing.put_list.Goals as goal

pub returns : goal.returns
returns g c =
    let opened =
    and_then c.args.out.now c.key.new.self c.begin_array.new.self (key c.args.name.now ∷ []) (begin_array ∷ [])
    (wrote_ok _ c.args.out.now c.key.new.self (key c.args.name.now) c.in_ok-key.ensures)
    (wrote_ok _ c.key.new.self c.begin_array.new.self begin_array c.in_ok-begin_array.ensures) in
    list_added c.end_array.result c.args.out.now c.begin_array.new.self c.put_each.new.out c.end_array.new.self c.args.name.now g.F.Form.data_of
    c.args.items.now opened c.in_ok-put_each.ensures
    (wrote c.end_array.result c.put_each.new.out c.end_array.new.self end_array c.end_array.ensures)
