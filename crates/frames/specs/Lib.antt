pub mod Frame
pub mod Step
pub mod Decides
pub mod Apart
pub mod Reading
pub mod Cursors
pub mod Inner
