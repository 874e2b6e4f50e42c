pub mod Parts
pub mod Tables
