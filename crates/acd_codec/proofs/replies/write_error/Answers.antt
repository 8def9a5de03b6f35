use Rattle.json.specs.Token.{begin_object, end_object}
use Rattle.acd_codec.proofs.TokensInTurn.{wrote, wrote_ok, and_then, adds_then}
use Rattle.acd_codec.proofs.replies.write_error.Goals as goal

pub returns : goal.returns
returns c =
    let began = wrote_ok _ c.args.out.now c.begin_object.new.self begin_object c.in_ok-begin_object.ensures in
    let named = and_then c.args.out.now c.begin_object.new.self c.put_error.new.out _ _ began c.in_ok-put_error.ensures in
    let answered = and_then c.args.out.now c.put_error.new.out c.put_whom.new.out _ _ named c.in_ok-put_whom.ensures in
    adds_then c.end_object.result c.args.out.now c.put_whom.new.out c.end_object.new.self _ _ answered (wrote c.end_object.result c.put_whom.new.out c.end_object.new.self end_object c.end_object.ensures)
