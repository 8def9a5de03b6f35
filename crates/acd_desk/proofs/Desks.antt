-- What calls of a desk leave of it and its book: opening, executing, the clock's tick, a session.
pub mod Commits
pub mod NewKeys
pub mod DeskSteps
pub mod Calls
pub mod FaultyCalls
pub mod CallsInTurn
pub mod Openings
pub mod Sessions
pub mod ClockTicks
