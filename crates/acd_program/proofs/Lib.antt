pub mod Commands
pub mod Archives
pub mod Occurs
