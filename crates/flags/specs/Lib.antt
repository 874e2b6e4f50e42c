pub mod Range
pub mod Flags
