-- What a request or a merge takes from callers in C and Rust, and leaves to them, in terms of the rules.
pub mod View
