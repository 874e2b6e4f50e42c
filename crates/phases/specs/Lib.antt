pub mod Phase
pub mod Phased
