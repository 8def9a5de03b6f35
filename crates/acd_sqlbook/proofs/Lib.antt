mod WritesInTurn
mod ElidedPuts
mod CommitWrites
mod AfterProbe
mod TableReplacement
mod BookStates
mod AscendingContent
mod AdoptedBooks
pub mod ReopenedBooks
mod PartCauses
mod CommitCauses
mod FailureCauses
mod IndexedEvents
mod MonitorPage
mod IndexRebuild
pub mod CachedCalls
mod RecordsReadAhead
mod FreshKeys
mod CommitsInRange
mod Pruning
