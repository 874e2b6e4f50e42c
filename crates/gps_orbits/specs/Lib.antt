pub mod EphemerisGps
