use Rattle.json.specs.Token.{begin_object, end_object}
use Rattle.acd_codec.specs.EventTexts.{event_parts}
use Rattle.acd_codec.proofs.TokensInTurn.{wrote, wrote_ok, object_added}
use Rattle.acd_codec.proofs.events.ReportsForm.write.Goals as goal

pub returns : goal.returns
returns c =
    object_added c.end_object.result c.args.out.now c.begin_object.new.self c.put_event.new.out c.end_object.new.self (event_parts c.args.event.now)
    (wrote_ok _ c.args.out.now c.begin_object.new.self begin_object c.in_ok-begin_object.ensures)
    c.in_ok-put_event.ensures
    (wrote c.end_object.result c.put_event.new.out c.end_object.new.self end_object c.end_object.ensures)
