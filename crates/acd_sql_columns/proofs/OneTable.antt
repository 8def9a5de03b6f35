-- Rows under keys, and queries over one table of any kind.
pub mod KeyedRows
pub mod CompositeKeys
pub mod Scans
pub mod OrderedQueries
pub mod Listings
pub mod Selections
pub mod Members
