pub mod Adding
pub mod Grades
pub mod Orders
pub mod Parts
pub mod Refusals
