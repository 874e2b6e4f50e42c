pub mod ReadRow
pub mod ReadsTyped
pub mod Inner
