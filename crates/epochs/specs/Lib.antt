pub mod Search
pub mod Listed
pub mod Happened
pub mod Fed
pub mod Collator
pub mod Epoch
pub mod Arrival
