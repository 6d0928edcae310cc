-- What callers in C and Rust give and get for a memory, in terms of the library and the rules.
pub mod View
pub mod Calls
