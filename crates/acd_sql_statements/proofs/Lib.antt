pub mod ListsByItem
pub mod ReadsInTurn
mod JoinedPlan
mod RowsInAnyOrder
pub mod FirstRecord
mod Pages
pub mod Failures
pub mod RefusalCauses
pub mod ReadTexts
pub mod ReadCauses
pub mod LookCauses
mod RowCauses
mod PlanCauses
mod RefusedGroups
mod ReadsByNumber
mod SameTerms
mod MissingConnections
mod TheTexts
mod SeveralPut
mod SeveralValues
mod UpTo
