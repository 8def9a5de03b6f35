use Rattle.std.proofs.Common.{◌≡◌, drop}
use Rattle.acd_model.specs.Services.SetAgentState.{all_groups}
use Rattle.acd_services.proofs.set_agent_state.all_groups.Given as goal

abbrev pub invariant-loop-group : goal.invariant-loop-group
invariant-loop-group l = all_groups l.tables (drop l.group-index l.groups) ≡ all_groups l.tables l.groups
