pub mod Fields
pub mod Layouts
pub mod Descriptions
pub mod Together
