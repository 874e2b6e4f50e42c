pub mod Run
pub mod InWords
