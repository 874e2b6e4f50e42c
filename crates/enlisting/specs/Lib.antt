pub mod FirstEight
pub mod Enlisting
