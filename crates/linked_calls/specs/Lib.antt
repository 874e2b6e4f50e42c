pub mod Linked
pub mod LinkedCalls
