pub mod Determining
pub mod Said
pub mod Public
pub mod All
