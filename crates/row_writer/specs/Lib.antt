pub mod WriteRow
pub mod WriteObsRow
pub mod Inner
pub mod WritesTyped
