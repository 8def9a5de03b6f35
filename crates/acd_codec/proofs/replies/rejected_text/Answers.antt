use Rattle.std.proofs.Common.{◌∙◌}
use Rattle.std.proofs.lemmas.Result.{IfOk-weaker}
use Rattle.acd_codec.proofs.ReplyTokens.{rejected_printed}
use Rattle.acd_codec.proofs.replies.rejected_text.Goals as goal

pub returns : goal.returns
returns c =
    let printed = rejected_printed c.args.requester.now c.args.invoke c.args.rejected c.code.result c.name.result.now c.code.ensures c.name.ensures c.new-out.result c.write_error.new.out c.new-out.ensures.tokens c.in_ok-write_error.ensures in
    IfOk-weaker c.text_of.result _ _ (λ s h. h ∙ printed) c.text_of.ensures
