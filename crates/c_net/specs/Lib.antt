-- What callers in C and Rust give and get, in terms of the rules.
pub mod Calls
pub mod Parts
pub mod View
