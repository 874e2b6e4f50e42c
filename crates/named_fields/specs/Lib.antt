pub mod Formats
pub mod Named
