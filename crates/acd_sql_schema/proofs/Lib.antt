mod TableTexts
mod CreateTable
mod CreationCauses
pub mod Contents
mod LogPages
mod Places
mod InspectionReads
mod MigratedTables
mod CreateAccepted
mod CreatesAccepted
mod Steps
mod Faults
mod NewBook
