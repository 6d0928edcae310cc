-- The read ports of a swizzle.
pub mod Going
pub mod Able
pub mod Raw
pub mod Cuts
pub mod Planned
