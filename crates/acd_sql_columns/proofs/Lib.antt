pub mod OneTable
pub mod Writes
pub mod Results
pub mod Rows
pub mod FileTables
