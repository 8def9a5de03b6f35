-- An audit: the kept requests run again, and what is read of the book for that.
pub mod PlaceLemmas
pub mod EventsAhead
pub mod ReplayStates
pub mod RecordComparisons
pub mod Audits
pub mod AuditLaws
pub mod AuditSteps
