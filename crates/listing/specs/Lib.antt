pub mod Listings
pub mod Queues
pub mod Verdicts
pub mod Waiters
