-- What the write ports of a swizzle leave.
pub mod Placed
pub mod Planned
