-- The changes of a step make its rows (`step_makes_its_changes`, `refusal_changes_nothing`, `changes_change_only`).
pub mod ChangedRows
pub mod CorrectedRecords
