pub mod Longer
pub mod Staying
pub mod WatchedCalls
