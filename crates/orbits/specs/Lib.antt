pub mod Motion
pub mod EphemerisSbas
pub mod EphemerisGlo
