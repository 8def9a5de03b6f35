use Rattle.std.proofs.Common.{◌∙◌}
use Rattle.std.proofs.lemmas.Result.{IfOk-weaker}
use Rattle.acd_codec.specs.EventTexts.{page_parts, page_text}
use Rattle.acd_codec.proofs.TokensInTurn.{printed_object}
use Rattle.acd_codec.proofs.events.page_text.Goals as goal

pub returns : goal.returns
unfolding page_text
returns c =
    let printed = printed_object c.in_ok-out.out c.put_page.new.out (page_parts c.args.events.now c.args.last) c.in_ok-out.ensures c.in_ok-put_page.ensures in
    IfOk-weaker c.ended.result _ _ (λ s h. h ∙ printed) c.ended.ensures
