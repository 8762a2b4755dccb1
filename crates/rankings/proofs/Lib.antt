pub mod Orders
pub mod Trees
