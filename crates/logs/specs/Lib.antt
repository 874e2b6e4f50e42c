pub mod Log
pub mod LogFaithful
