-- A command's work, by its parts: what is done, what is left, and how it ends.
pub mod SoundElsewhere
pub mod BookReads
pub mod Works
pub mod InFiles
pub mod Inputs
pub mod Tasks
pub mod Ended
pub mod TasksEnded
pub mod Exits
pub mod Printed
