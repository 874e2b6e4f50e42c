pub mod Feeds
pub mod Makes
pub mod Enlists
