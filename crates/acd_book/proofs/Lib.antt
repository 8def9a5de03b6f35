mod ChangeCounters
pub mod NumberedLists
pub mod Keys
pub mod EventsAbove
mod MonitorEvents
mod Places
mod DeviceNumbers
mod MonitorCounts
pub mod BookSteps
pub mod ReadsInTurn
pub mod ReadsAhead
pub mod SharedLists
