use Rattle.std.proofs.Common.{◌∙◌}
use Rattle.std.proofs.lemmas.Result.{IfOk-weaker}
use Rattle.acd_codec.specs.ReadTexts.{call_parts, call_text}
use Rattle.acd_codec.specs.declared.read_texts.Extent.TheVariants.{Brief}
use Rattle.acd_codec.proofs.TokensInTurn.{printed_object}
use Rattle.acd_codec.proofs.read_texts.call_text.Goals as goal

pub returns : goal.returns
unfolding call_text
returns c =
    let printed = printed_object c.in_ok-out.out c.put_call_members.new.out (call_parts Brief c.args.call.now c.args.connections.now) c.in_ok-out.ensures c.in_ok-put_call_members.ensures in
    IfOk-weaker c.ended.result _ _ (λ s h. h ∙ printed) c.ended.ensures
