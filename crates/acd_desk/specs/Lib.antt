pub mod Contents
pub mod Desks
pub mod Reads
pub mod Audits
pub mod Laws
