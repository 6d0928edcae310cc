-- What callers in C and Rust get for a memory and a plan, in terms of the rules.
pub mod View
