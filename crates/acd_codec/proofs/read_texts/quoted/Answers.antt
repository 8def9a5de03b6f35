use Rattle.std.proofs.Common.{◌∙◌}
use Rattle.std.proofs.lemmas.Result.{IfOk-weaker}
use Rattle.serde_json.specs.Data.{string}
use Rattle.acd_codec.specs.ReadTexts.{quoted}
use Rattle.acd_codec.proofs.TokensInTurn.{printed}
use Rattle.acd_codec.proofs.read_texts.quoted.Goals as goal

pub returns : goal.returns
unfolding quoted
returns c =
    let whole = printed (string c.args.text.now) c.new-out.result c.string.new.self c.new-out.ensures.tokens (c.in_ok-string.ensures.room.0, c.in_ok-string.ensures.ok) in
    IfOk-weaker c.text_of.result _ _ (λ s h. h ∙ whole) c.text_of.ensures
