use Rattle.acd_codec.proofs.TokensInTurn.{adds_then}
use Rattle.acd_codec.proofs.requests.put_at_agent.Goals as goal

pub returns : goal.returns
returns c =
    let r = c.put_service.result in
    let end = c.put_service.new.out in
    let named = adds_then r c.put_agent.new.out c.put_named.new.out end _ _ c.in_ok-put_named.ensures c.put_service.ensures in
    adds_then r c.args.out.now c.put_agent.new.out end _ _ c.in_ok-put_agent.ensures named
