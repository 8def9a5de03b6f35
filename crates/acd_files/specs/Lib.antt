pub mod Faults
pub mod Files
pub mod Plans
pub mod Logs
pub mod PlanLines
pub mod Rights
pub mod Connections
