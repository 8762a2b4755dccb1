pub mod Meanings
pub mod Paths
pub mod Refusals
pub mod Reliability
pub mod MeaningsLemmas
