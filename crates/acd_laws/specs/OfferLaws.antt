-- Distribution makes the offers that are to be made, and after every step no group has both a waiting call and an eligible agent.
use Rattle.std.specs.Prelude.{◌≡◌, ◌↔◌, true, List, [], ◌++◌}
use Rattle.acd_terms.specs.Lists.{Among}
use Rattle.acd_terms.specs.Rows.{empty_rows}
use Rattle.acd_terms.specs.Numbers.{Moment}
use Rattle.acd_terms.specs.declared.rows.Rows.{Rows}
use Rattle.acd_terms.specs.declared.rows.Limits.{Limits}
use Rattle.acd_terms.specs.declared.record.GroupRecord.{GroupRecord}
use Rattle.acd_terms.specs.declared.command.Command.{Command}
use Rattle.acd_model.specs.Offers.{IsOffer, HasNoOffer}
use Rattle.acd_model.specs.Moves.{moved}
use Rattle.acd_model.specs.Distribution.{offer_moves, distribution}
use Rattle.acd_model.specs.ServiceAnswers.{moves_of}
use Rattle.acd_model.specs.Services.Serve.{serve}
use Rattle.acd_model.specs.Step.{step, next_turn}
use Rattle.acd_model.specs.Run.{TimedCommand, run}
use Rattle.acd_model.specs.Rules.Plan.{keeps_order, keeps_device, keeps_agent}
use Rattle.acd_model.specs.Rules.Calls.{keeps_call, keeps_connection, keeps_parties, keeps_live}
use Rattle.acd_model.specs.Rules.Occupied.{keeps_occupied}
use Rattle.acd_model.specs.Rules.First.{BreaksNoRule}
use Rattle.acd_model.specs.declared.moves.Move.{Move}
use Rattle.acd_model.specs.declared.moves.Offer.{Offer}

-- each group has no waiting call, or no eligible agent
abbrev pub LeavesNoOffer : Rows → Type 0
LeavesNoOffer s = (g : GroupRecord) → Among g s.groups → HasNoOffer s g.device

-- offers are made one after another, each the one that is to be made then, until there is none
pub data IsDistribution (moment : Moment) : Rows → List Move → Type 0 where
  ends : (s : Rows) → LeavesNoOffer s → IsDistribution moment s []
  goes_on : (s : Rows) (o : Offer) (more : List Move) → IsOffer s o → IsDistribution moment (moved s (offer_moves s moment o)) more → IsDistribution moment s (offer_moves s moment o ++ more)

-- the rules that are kept within a step too: those of sizes, counters, offers, monitors and figures hold again at its end
pub record KeepsWithin (s : Rows) : Type 0 where
  pub order : keeps_order s ≡ true
  pub device : keeps_device s ≡ true
  pub agent : keeps_agent s ≡ true
  pub call : keeps_call s ≡ true
  pub connection : keeps_connection s ≡ true
  pub parties : keeps_parties s ≡ true
  pub live : keeps_live s ≡ true
  pub occupied : keeps_occupied s ≡ true

-- of rows that break no rule, where a step distributes: after the moves of its service
abbrev pub RulesAreKeptWithin : Type 0
RulesAreKeptWithin = (s : Rows) (moment : Moment) (command : Command) → BreaksNoRule s
    → KeepsWithin (moved s (moves_of (serve s (next_turn s moment) command)))

-- the moves of a distribution are these, and no others
abbrev pub FindsTheDistribution : Type 0
FindsTheDistribution = (s : Rows) (moment : Moment) (moves : List Move) → KeepsWithin s → (moves ≡ distribution s moment) ↔ IsDistribution moment s moves

abbrev pub StepLeavesNoOffer : Type 0
StepLeavesNoOffer = (s : Rows) (moment : Moment) (command : Command) → BreaksNoRule s → LeavesNoOffer (step s moment command).rows

abbrev pub RunLeavesNoOffer : Type 0
RunLeavesNoOffer = (limits : Limits) (commands : List TimedCommand) → LeavesNoOffer (run (empty_rows limits) commands).rows
