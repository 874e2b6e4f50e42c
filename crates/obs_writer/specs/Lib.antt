pub mod ObsWriter
pub mod ObsFaithful
