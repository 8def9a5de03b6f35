-- The figures of a group are what its events count (`step_adds_figures`, `run_keeps_figures`, `step_balances`).
pub mod FigureCounts
pub mod EventCounts
