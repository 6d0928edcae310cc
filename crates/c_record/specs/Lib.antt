-- What callers in C and Rust get, in terms of the rules.
pub mod View
