use Rattle.std.proofs.Common.{◌∙◌}
use Rattle.std.proofs.lemmas.Result.{IfOk-weaker}
use Rattle.acd_codec.specs.EventTexts.{event_parts, event_text}
use Rattle.acd_codec.proofs.TokensInTurn.{printed_object}
use Rattle.acd_codec.proofs.events.event_text.Goals as goal

pub returns : goal.returns
unfolding event_text
returns c =
    let printed = printed_object c.in_ok-out.out c.put_event.new.out (event_parts c.args.event.now) c.in_ok-out.ensures c.in_ok-put_event.ensures in
    IfOk-weaker c.ended.result _ _ (λ s h. h ∙ printed) c.ended.ensures
