-- Every call is in one queue, or at devices, or is cleared once (`step_places`, `run_is_placed`, `step_keeps_clearings`, `step_names_no_later_call`).
pub mod PlacedRuns
pub mod ClearedCalls
