-- The tables of a file: that each is as it is described, and what its statements and queries do.
pub mod DescribedTable
pub mod CompositeKeyed
pub mod TablesDescribed
pub mod Connections
pub mod AgentGroups
pub mod Counters
pub mod UpTo
pub mod TableQueries
pub mod QueryResults
pub mod SecondVersionQueries
