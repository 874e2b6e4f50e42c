pub mod Numbers
pub mod Carrying
pub mod Calls
