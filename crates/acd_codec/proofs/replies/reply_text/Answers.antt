use Rattle.std.proofs.Common.{◌∙◌}
use Rattle.std.proofs.lemmas.Result.{IfOk-weaker}
use Rattle.acd_codec.proofs.ReplyTokens.{reply_printed}
use Rattle.acd_codec.proofs.replies.reply_text.Goals as goal

pub returns : goal.returns
returns c =
    let printed = reply_printed c.args.requester.now c.args.invoke c.args.outcome c.new-out.result c.write_reply.new.out c.new-out.ensures.tokens c.in_ok-write_reply.ensures in
    IfOk-weaker c.text_of.result _ _ (λ s h. h ∙ printed) c.text_of.ensures
