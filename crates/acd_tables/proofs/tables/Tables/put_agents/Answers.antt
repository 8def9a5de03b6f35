use Rattle.std.proofs.Common.{◌<◌, ◌≤◌, length, ap, ◌∙◌, arith}
use Rattle.std.proofs.lemmas.List.{take_all}
use Rattle.acd_model.specs.Writes.{with_agent}
use Rattle.acd_tables.proofs.FillLemmas.{filled_agent}
use Rattle.acd_tables.proofs.tables.Tables.put_agents.Goals as goal

pub loop-agent-init : goal.loop-agent-init
loop-agent-init c = ap (λ l. record c.args.self.now { agents = l }) c.requires.none

pub loop-agent-preserved : goal.loop-agent-preserved
loop-agent-preserved c =
    let inside : c.loop-agent.agent-index < length c.args.agents.now = omega arith in
    c.in_ok-put_agent.ensures.ok
    ∙ ap (λ s. with_agent s c.agent-item.result) c.loop-agent.invariant
    ∙ filled_agent c.args.self.now c.args.agents.now c.loop-agent.agent-index c.agent-item.result c.requires.order inside c.agent-item.is

pub returns : goal.returns
returns c =
    let past : length c.args.agents.now ≤ c.loop-agent.agent-index = omega arith in
    c.loop-agent.invariant ∙ ap (λ l. record c.args.self.now { agents = l }) (take_all c.loop-agent.agent-index c.args.agents.now past)
