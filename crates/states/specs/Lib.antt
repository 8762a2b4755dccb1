pub mod Answers
pub mod Lists
pub mod Masses
pub mod Sets
pub mod Steps
pub mod Sums
pub mod Trees
