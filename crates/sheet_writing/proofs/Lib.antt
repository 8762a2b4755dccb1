pub mod Lengths
pub mod Lines
pub mod Writers
