use Rattle.std.proofs.Common.{◌∙◌}
use Rattle.std.proofs.lemmas.Result.{IfOk-weaker}
use Rattle.acd_codec.specs.RequestTexts.{members_of, request_data, request_text}
use Rattle.acd_codec.proofs.TokensInTurn.{printed_members}
use Rattle.acd_codec.proofs.requests.request_bytes.Goals as goal

pub returns : goal.returns
unfolding request_data request_text
returns c =
    let printed = printed_members c.in_ok-out.out c.put_request.new.out (members_of c.args.request.now) c.in_ok-out.ensures c.in_ok-put_request.ensures in
    IfOk-weaker c.ended_bytes.result _ _ (λ s h. h ∙ printed) c.ended_bytes.ensures
