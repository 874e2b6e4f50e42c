pub mod Told
pub mod Growing
