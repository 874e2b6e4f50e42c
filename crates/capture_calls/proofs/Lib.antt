pub mod Captured
pub mod AllCaptured
