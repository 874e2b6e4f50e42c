pub mod Keys
pub mod Recognitions
