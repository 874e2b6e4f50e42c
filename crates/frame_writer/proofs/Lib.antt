pub mod WrittenPlan
pub mod WrittenFrames
pub mod WrittenRead
pub mod WrittenStream
pub mod Promised
pub mod FixedLength
