pub mod FigureSums
pub mod Room
pub mod RowFaults
pub mod SwitchAnswers
pub mod CarriedOutMoves
pub mod ExecutedRows
