pub mod Counting
pub mod FramesTold
pub mod RowByRow
