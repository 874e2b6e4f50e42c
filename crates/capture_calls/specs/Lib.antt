pub mod CaptureCalls
