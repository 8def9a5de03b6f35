pub mod Heads
pub mod LogFrames
