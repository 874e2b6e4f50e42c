pub mod Writer
pub mod Faithful
pub mod Inner
