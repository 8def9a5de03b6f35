mod Differences
mod Transitions
mod Wholeness
