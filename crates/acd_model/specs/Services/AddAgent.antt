-- addAgent: an agent is planned.
use Rattle.std.specs.Prelude.{ℕ, List, [], ◌∷◌, length, nat_le, None, is_some}
use Rattle.acd_terms.specs.Numbers.{Agent}
use Rattle.acd_terms.specs.declared.command.Turn.{Turn}
use Rattle.acd_terms.specs.Results.{◌>>◌}
use Rattle.acd_terms.specs.declared.rows.Rows.{Rows}
use Rattle.acd_terms.specs.declared.record.AgentRecord.{AgentRecord}
use Rattle.acd_terms.specs.declared.state.AgentState.TheVariants.{Null}
use Rattle.acd_terms.specs.declared.answer.Answer.TheVariants.{Nothing}
use Rattle.acd_terms.specs.declared.answer.Refusal.TheVariants.{AgentExists, PlanFull}
use Rattle.acd_model.specs.Scans.{agent_of}
use Rattle.acd_model.specs.Moves.{silent}
use Rattle.acd_model.specs.ServiceAnswers.{Served, refuse_if, gives}
use Rattle.acd_model.specs.declared.moves.Change.TheVariants.{PutAgent}

-- an agent as it is planned: logged on nowhere
abbrev pub new_agent : Turn → Agent → List ℕ → AgentRecord
new_agent turn agent name = record { agent = agent; name = name; state = Null; pending = None; station = None; groups = []; stamp = turn.stamp; since = turn.moment }

unfoldable pub add_agent : Rows → Turn → Agent → List ℕ → Served
add_agent s turn agent name = do
  refuse_if (is_some (agent_of s agent)) AgentExists
  refuse_if (nat_le s.limits.agents (length s.agents)) PlanFull
  gives Nothing (silent (PutAgent (new_agent turn agent name)) ∷ [])
