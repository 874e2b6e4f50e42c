pub mod Decimals
pub mod Filling
pub mod Pending
pub mod LinesPut
