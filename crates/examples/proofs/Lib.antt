pub mod AllHold
pub mod ShutOut
pub mod OnceHonest
pub mod TwoPackets
pub mod LinkedOut
