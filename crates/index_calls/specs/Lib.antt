pub mod IndexCalls
