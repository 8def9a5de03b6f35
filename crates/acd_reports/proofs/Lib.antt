pub mod RowLemmas
pub mod ReadLemmas
pub mod PlanLemmas
pub mod ExportLemmas
