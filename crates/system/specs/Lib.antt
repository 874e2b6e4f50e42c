pub mod Empty
pub mod ReadByIndexReq
pub mod Startup
pub mod Heartbeat
pub mod HeartbeatFlags
