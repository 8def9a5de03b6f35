-- An audit beside an archive, the records that both have, and a content whose oldest records are taken away.
pub mod NextRecords
pub mod LookUps
pub mod SharedSteps
pub mod CleanCuts
pub mod BothReads
pub mod Overlaps
pub mod CarriedPart
pub mod NewerRuns
pub mod ArchiveReplaySteps
pub mod ArchiveAuditReads
pub mod Pruning
