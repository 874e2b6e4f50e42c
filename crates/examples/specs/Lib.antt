pub mod Examples
pub mod Idle
pub mod IdleLinked
