pub mod AllTyped
pub mod Named
