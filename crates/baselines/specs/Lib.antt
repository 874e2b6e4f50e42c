pub mod Ecef
pub mod Ned
pub mod Heading
