pub mod Senders
pub mod Carries
pub mod Calls
