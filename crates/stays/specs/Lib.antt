pub mod Stays
pub mod Watching
