use Rattle.acd_codec.specs.Parts.{groups_parts}
use Rattle.acd_codec.proofs.TokensInTurn.{adds_then, adds_before}
use Rattle.acd_codec.proofs.requests.put_set_agent_state.Goals as goal

pub returns-in_ok-put_groups-in-LoggedOn : goal.returns-in_ok-put_groups-in-LoggedOn
returns-in_ok-put_groups-in-LoggedOn c =
    let r = c.put_asked.result in
    let end = c.put_asked.new.out in
    let groups = adds_before r c.put_device.new.out c.put_groups.new.out end (groups_parts c.in-LoggedOn.groups) _ (rw c.groups.ensures.value at c.in_ok-put_groups-in-LoggedOn.ensures) c.put_asked.ensures in
    let device = adds_then r c.put_agent.new.out c.put_device.new.out end _ _ c.in_ok-put_device-in-LoggedOn.ensures groups in
    rw c.in-LoggedOn.is (adds_then r c.args.out.now c.put_agent.new.out end _ _ c.in_ok-put_agent.ensures device)

pub returns-in-State : goal.returns-in-State
returns-in-State c =
    rw c.in-State.is (adds_then c.put_asked-in-State.result c.args.out.now c.put_agent.new.out c.put_asked-in-State.new.out _ _ c.in_ok-put_agent.ensures c.put_asked-in-State.ensures)
