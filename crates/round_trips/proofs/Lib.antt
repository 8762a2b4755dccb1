pub mod Reading
pub mod Sets
pub mod Trips
pub mod Writing
