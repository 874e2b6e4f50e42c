pub mod GpsTime
pub mod Dops
