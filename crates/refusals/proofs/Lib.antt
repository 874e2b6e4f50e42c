pub mod Distinct
pub mod Ordered
pub mod Joined
