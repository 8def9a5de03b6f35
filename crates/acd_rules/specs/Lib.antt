pub mod SortedRecords
pub mod Groups
