-- An agent whose distributed connection ends, and what becomes of it.
use Rattle.std.specs.Prelude.{Option, Some, None, if◌then◌else◌}
use Rattle.acd_terms.specs.States.{is_distributed, is_answered, state_wanted}
use Rattle.acd_terms.specs.Numbers.{Device}
use Rattle.acd_terms.specs.declared.command.Turn.{Turn}
use Rattle.acd_terms.specs.declared.rows.Rows.{Rows}
use Rattle.acd_terms.specs.declared.record.AgentRecord.{AgentRecord}
use Rattle.acd_terms.specs.declared.record.ConnectionRecord.{ConnectionRecord}
use Rattle.acd_terms.specs.declared.state.AgentState.TheVariants.{NotReady, WorkingAfterCall}
use Rattle.acd_terms.specs.declared.state.Pending.{Pending}
use Rattle.acd_terms.specs.declared.state.Pending.TheVariants as pending
use Rattle.acd_model.specs.Scans.{agent_at}
use Rattle.acd_model.specs.Moves.{no_move}
use Rattle.acd_model.specs.AgentMoves.{go_to, wait_for}
use Rattle.acd_model.specs.declared.moves.Move.{Move}
use Rattle.acd_model.specs.declared.moves.Ending.{Ending}
use Rattle.acd_model.specs.declared.moves.Ending.TheVariants.{Answered, Unanswered, NoAnswer}
use Rattle.acd_model.specs.declared.moves.Release.{Release}
use Rattle.acd_model.specs.declared.moves.Release.TheVariants.{Stays, Goes}

-- the table of release: by how the connection ended and what was pending
abbrev pub release_of : Ending → Option Pending → Release
release_of Answered None = Goes WorkingAfterCall
release_of Unanswered None = Stays
release_of Unanswered (Some pending.Ready) = Stays
release_of NoAnswer None = Goes NotReady
release_of NoAnswer (Some pending.Ready) = Goes NotReady
release_of _ (Some wanted) = Goes (state_wanted wanted)

-- nothing is pending any more
abbrev pub released : Turn → AgentRecord → Device → Release → Move
released turn a station Stays = wait_for a None
released turn a station (Goes state) = go_to turn a station state

abbrev pub release_agent : Turn → Option AgentRecord → Device → Ending → Move
release_agent turn None station how = no_move
release_agent turn (Some a) station how = released turn a station (release_of how a.pending)

-- how a connection ends that is cleared, deflected or transferred
abbrev pub ending_of : ConnectionRecord → Ending
ending_of x = if is_answered x.state then Answered else Unanswered

-- where a distributed connection ends, the agent at its station is released
unfoldable pub release : Rows → Turn → ConnectionRecord → Ending → Move
release s turn x how = if is_distributed x then release_agent turn (agent_at s x.device) x.device how else no_move
