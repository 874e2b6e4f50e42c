pub mod Editions
pub mod ObsReading
