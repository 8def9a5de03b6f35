pub mod Plan
pub mod Calls
pub mod Occupied
pub mod Counters
pub mod First
