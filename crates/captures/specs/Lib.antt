pub mod Collated
pub mod Capture
