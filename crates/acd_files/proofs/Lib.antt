pub mod Begun
pub mod LoneLogs
pub mod Plans
pub mod Ends
pub mod LineOf
pub mod ShownLines
