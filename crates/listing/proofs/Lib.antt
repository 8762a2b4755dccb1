pub mod Behind
pub mod Calling
pub mod Entries
pub mod Opening
pub mod Queues
pub mod Running
pub mod Sorting
pub mod Turns
