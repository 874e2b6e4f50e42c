pub mod TimeOfWeek
pub mod Common
