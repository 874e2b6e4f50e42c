pub mod InWords
pub mod Group
pub mod AnyOrder
