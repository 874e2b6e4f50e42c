pub mod Formats
pub mod Steps
pub mod Packed
pub mod Rows
pub mod Extended
pub mod Cut
pub mod Widened
pub mod Narrow
