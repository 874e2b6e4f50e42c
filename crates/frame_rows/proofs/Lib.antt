pub mod LentRows
pub mod ReadBack
