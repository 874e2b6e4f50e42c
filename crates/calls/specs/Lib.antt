pub mod Replies
pub mod Gives
