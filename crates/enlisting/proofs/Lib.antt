pub mod Joining
pub mod EightSenders
pub mod Seats
pub mod Seating
pub mod Growing
