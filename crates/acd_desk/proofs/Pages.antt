-- Reads of a desk, pages of events, the lines of a queue report.
pub mod ReadsDone
pub mod OrderLemmas
pub mod PageLemmas
pub mod GroupLines
