pub mod Reader
pub mod Walk
