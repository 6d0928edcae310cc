-- What callers in C and Rust give to the swizzle and get from it, in terms of the library.
pub mod View
pub mod Calls
