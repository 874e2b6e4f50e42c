pub mod Onward
pub mod Plans
pub mod Filled
pub mod Counts
pub mod Seeking
