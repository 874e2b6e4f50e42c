pub mod Edition
pub mod Obs
