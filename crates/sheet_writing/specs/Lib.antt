pub mod Refusals
pub mod Writers
pub mod Writing
