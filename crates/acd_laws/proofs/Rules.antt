-- The bounds that the rules give, and that every step keeps them (`step_keeps_rules`, `run_keeps_rules`, `rules_bound`, `rules_leave_room`, `rules_are_kept_within`; all laws
-- together).
pub mod RulesAll
pub mod RulesOfSteps
pub mod BoundsStep
pub mod AllRuleTests
pub mod StepEnds
pub mod RulesOfPlanning
pub mod RulesOfCalls
pub mod RulesOfEnds
pub mod RulesOfOffers
pub mod MoveOrder
pub mod Numbers
pub mod Rounds
