pub mod Faults
pub mod Statuses
pub mod Commands
pub mod Archives
pub mod Reasons
