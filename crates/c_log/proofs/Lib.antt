-- Laws of what a request or a merge leaves to a caller in C or Rust.
pub mod Left
