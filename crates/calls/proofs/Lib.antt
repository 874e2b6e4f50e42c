pub mod Results
pub mod Giving
