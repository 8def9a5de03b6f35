-- Audits, prunes and exports with archives, by what their books left.
pub mod AuditsWithArchive
pub mod ReadsOn
pub mod Prunes
pub mod Exports
pub mod EachOnce
