pub mod Streams
pub mod SentBytes
pub mod Digits
pub mod Order
pub mod RestOfInput
pub mod Laws
