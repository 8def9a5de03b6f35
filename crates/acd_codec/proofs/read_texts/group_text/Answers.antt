use Rattle.std.proofs.Common.{◌∙◌}
use Rattle.std.proofs.lemmas.Result.{IfOk-weaker}
use Rattle.acd_codec.specs.ReadTexts.{group_parts, group_text}
use Rattle.acd_codec.specs.declared.read_texts.Extent.TheVariants.{Brief}
use Rattle.acd_codec.proofs.TokensInTurn.{printed_object}
use Rattle.acd_codec.proofs.read_texts.group_text.Goals as goal

pub returns : goal.returns
unfolding group_text
returns c =
    let printed = printed_object c.in_ok-out.out c.put_group_members.new.out (group_parts Brief c.args.group.now) c.in_ok-out.ensures c.in_ok-put_group_members.ensures in
    IfOk-weaker c.ended.result _ _ (λ s h. h ∙ printed) c.ended.ensures
