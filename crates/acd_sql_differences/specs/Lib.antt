pub mod DifferenceSteps
pub mod Transition
pub mod ChangeOrder
