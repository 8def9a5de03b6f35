-- What a command does with the archive that a desk's file goes on from.
pub mod WithArchive
pub mod Pruning
pub mod ArchiveExport
pub mod EachOnce
