pub mod Bytes
pub mod Inner
