pub mod Tells
pub mod Lives
pub mod Grows
