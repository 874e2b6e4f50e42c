pub mod Numbers
pub mod Lent
pub mod Signed
pub mod Doubles
pub mod Copies
pub mod OneBit
pub mod Stored
pub mod Tables
