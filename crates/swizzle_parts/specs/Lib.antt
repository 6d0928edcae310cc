-- A memory of those that a swizzle gives.
pub mod Parts
pub mod Known
