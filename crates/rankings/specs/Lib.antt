pub mod Exact
pub mod Orders
pub mod Points
pub mod Counting
pub mod Exactly
