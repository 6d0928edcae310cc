-- What a fallback gives to callers in C and Rust, in terms of the library.
pub mod View
