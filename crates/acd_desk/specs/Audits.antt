-- A replay of what a book keeps, alone and with its archive, and what an audit says of it.
pub mod Replay
pub mod Audit
pub mod Overlap
pub mod Pairs
pub mod ReplayWith
pub mod AuditWith
pub mod ArchiveAudits
