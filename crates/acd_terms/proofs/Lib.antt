pub mod Numbers
pub mod Results
pub mod Texts
pub mod Identifiers
pub mod ReadBack
mod NumbersInOrder
mod DevicesInPlace
