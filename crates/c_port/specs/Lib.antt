-- What a call on a memory's ports takes from callers in C and Rust, and leaves to them, in terms of the library and the rules.
pub mod View
pub mod Overlays
