pub mod OneQuestion
pub mod HandedOut
pub mod WrittenWalks
pub mod Readers
