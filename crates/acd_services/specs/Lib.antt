pub mod NoTick
pub mod MovesOnTables
