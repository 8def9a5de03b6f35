-- What the reports give a watcher (`step_keeps_watched`, `run_is_watched`, `run_reports_no_more`).
pub mod WatchedRuns
pub mod EffectReports
pub mod MoveReports
pub mod ReportedState
pub mod Order
