pub mod MovesInTurn
pub mod StepEnd
pub mod RoomOfRules
pub mod RefusedSteps
pub mod EmptyState
pub mod RoomOfFigures
pub mod ChangesOfRequests
pub mod TickLemmas
