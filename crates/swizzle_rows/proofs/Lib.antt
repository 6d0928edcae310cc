-- Laws of the rows of a swizzle.
pub mod Sizes
