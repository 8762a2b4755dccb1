pub mod Paths
pub mod Reliability
