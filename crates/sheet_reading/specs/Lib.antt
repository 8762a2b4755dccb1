pub mod Books
pub mod Numbers
pub mod Paths
pub mod Readings
pub mod Rules
pub mod Stages
