-- What a statement leaves of a table, of a content and of a transaction.
pub mod Statements
pub mod Updates
pub mod Puts
pub mod Sets
pub mod Removals
pub mod Common
pub mod Frames
pub mod TransactionEnds
