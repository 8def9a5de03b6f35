-- The work of a command, over a book and over files, and what a fault that ends it leaves.
pub mod AuditFindings
pub mod Work
pub mod InFiles
pub mod Tasks
pub mod Ended
pub mod TasksEnded
pub mod FileTasks
pub mod HostTasks
