pub mod Sends
pub mod Inputs
pub mod DigitLemmas
pub mod Orders
pub mod PassedBytes
pub mod StopsAtOrder
