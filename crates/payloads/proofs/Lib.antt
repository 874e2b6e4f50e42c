pub mod Entries
pub mod Lengths
pub mod TypesFound
pub mod Agreed
pub mod Shapes
