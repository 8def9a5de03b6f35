pub mod MemoryDesk
pub mod Over
pub mod BooksOfConnections
pub mod Called
pub mod LeftDesks
pub mod Asking
pub mod ServeDone
pub mod StandbyRuns
pub mod LinesOver
pub mod Inputs
pub mod Archives
mod Reopening
