pub mod Crc
pub mod Remainder
pub mod Parts
pub mod Calls
pub mod Inner
