pub mod Number
pub mod Double
pub mod Value
pub mod Tabulated
