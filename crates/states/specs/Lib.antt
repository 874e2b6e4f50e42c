pub mod Feed
pub mod Enlist
