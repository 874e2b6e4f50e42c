pub mod Field
pub mod Layout
pub mod Description
pub mod Together
pub mod Inner
