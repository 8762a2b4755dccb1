pub mod Outputs
pub mod Refusals
pub mod Rows
pub mod Stations
pub mod Steps
