pub mod AfterZeros
pub mod Logs
