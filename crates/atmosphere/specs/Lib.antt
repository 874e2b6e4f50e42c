pub mod GroupDelay
pub mod Iono
pub mod SvConfigurationGps
