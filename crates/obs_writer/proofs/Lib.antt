pub mod ObsLong
pub mod EntriesStored
pub mod ObsWritten
pub mod ObsThrough
