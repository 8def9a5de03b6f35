use Rattle.std.proofs.Common.{◌∙◌}
use Rattle.std.proofs.lemmas.Result.{IfOk-weaker}
use Rattle.acd_codec.specs.ReadTexts.{queue_parts, queue_text}
use Rattle.acd_codec.proofs.TokensInTurn.{printed_object}
use Rattle.acd_codec.proofs.read_texts.queue_text.Goals as goal

pub returns : goal.returns
unfolding queue_text
returns c =
    let printed = printed_object c.in_ok-out.out c.put_queue_members.new.out (queue_parts c.args.group c.args.waiting.now c.args.ready.now) c.in_ok-out.ensures c.in_ok-put_queue_members.ensures in
    IfOk-weaker c.ended.result _ _ (λ s h. h ∙ printed) c.ended.ensures
