-- A record and its row: each value, all fields, what several rows join, and ranges.
pub mod ValuesInRange
pub mod CodeLaws
pub mod SortLaws
pub mod FieldLaws
pub mod Records
pub mod EventRows
pub mod JoinedRecords
pub mod RejoinedRows
pub mod RowsOfRecords
pub mod RecordsOfRows
pub mod Bounds
pub mod ReadBack
pub mod GoodRecords
pub mod KeptInRange
