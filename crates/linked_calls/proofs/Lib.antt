pub mod Numbered
pub mod AllLinked
