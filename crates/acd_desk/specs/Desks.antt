-- A desk over a book: how it is opened, takes arrivals and ticks, and what a session of it did.
pub mod DeskState
pub mod LoadedDesk
pub mod Opening
pub mod Faults
pub mod PreparedCommit
pub mod DeskCalls
pub mod Clock
pub mod Session
pub mod ArrivalsAndReads
