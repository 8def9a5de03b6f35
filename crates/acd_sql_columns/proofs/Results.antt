-- What a query finds, and that it changes nothing.
pub mod Queries
pub mod QueryAnswers
pub mod SnapshotReads
pub mod WholeTableQueries
