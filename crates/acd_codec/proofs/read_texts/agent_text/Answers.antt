use Rattle.std.proofs.Common.{◌∙◌}
use Rattle.std.proofs.lemmas.Result.{IfOk-weaker}
use Rattle.acd_codec.specs.ReadTexts.{agent_parts, agent_text}
use Rattle.acd_codec.specs.declared.read_texts.Extent.TheVariants.{Brief}
use Rattle.acd_codec.proofs.TokensInTurn.{printed_object}
use Rattle.acd_codec.proofs.read_texts.agent_text.Goals as goal

pub returns : goal.returns
unfolding agent_text
returns c =
    let printed = printed_object c.in_ok-out.out c.put_agent_members.new.out (agent_parts Brief c.args.agent.now) c.in_ok-out.ensures c.in_ok-put_agent_members.ensures in
    IfOk-weaker c.ended.result _ _ (λ s h. h ∙ printed) c.ended.ensures
