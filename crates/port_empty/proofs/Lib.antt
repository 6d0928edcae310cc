-- Laws of depth 0.
pub mod Bounds
pub mod Empty
