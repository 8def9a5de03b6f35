-- No agent has two distributed calls, and each distributed connection is where its agent is logged on.
use Rattle.std.specs.Prelude.{List}
use Rattle.acd_terms.specs.Rows.{empty_rows}
use Rattle.acd_terms.specs.Numbers.{Moment}
use Rattle.acd_terms.specs.declared.rows.Rows.{Rows}
use Rattle.acd_terms.specs.declared.rows.Limits.{Limits}
use Rattle.acd_terms.specs.declared.command.Command.{Command}
use Rattle.acd_model.specs.OneOffer.{HasOneOffer}
use Rattle.acd_model.specs.Step.{step}
use Rattle.acd_model.specs.Run.{TimedCommand, run}
use Rattle.acd_model.specs.Rules.First.{BreaksNoRule}

-- where no rule is broken
abbrev pub RulesGiveOneOffer : Type 0
RulesGiveOneOffer = (s : Rows) → BreaksNoRule s → HasOneOffer s

-- and after each step from there
abbrev pub StepKeepsOneOffer : Type 0
StepKeepsOneOffer = (s : Rows) (moment : Moment) (command : Command) → BreaksNoRule s → HasOneOffer (step s moment command).rows

abbrev pub RunHasOneOffer : Type 0
RunHasOneOffer = (limits : Limits) (commands : List TimedCommand) → HasOneOffer (run (empty_rows limits) commands).rows
