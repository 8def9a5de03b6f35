pub mod Layout
pub mod QueueReport
pub mod PlanRows
pub mod Plan
pub mod PlanReaders
pub mod Export
pub mod ExportWriters
