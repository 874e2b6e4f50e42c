pub mod TypedCalls
pub mod Names
