pub mod Found
pub mod Totals
pub mod Shown
