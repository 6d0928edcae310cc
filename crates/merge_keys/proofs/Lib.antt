-- Laws of the keys kept in two columns.
pub mod Pairs
pub mod Search
pub mod Turn
pub mod Whole
