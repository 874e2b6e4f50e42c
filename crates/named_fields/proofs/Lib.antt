pub mod Fields
pub mod Meanings
