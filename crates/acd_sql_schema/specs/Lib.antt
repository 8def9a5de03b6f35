pub mod Creation
pub mod Migration
pub mod Inspection
