pub mod Networks
pub mod Refusals
pub mod Walks
pub mod Rounds
pub mod Masts
