pub mod Payloads
pub mod Types
pub mod Places
pub mod Checks
pub mod Inner
