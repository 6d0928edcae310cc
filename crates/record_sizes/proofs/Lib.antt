-- Laws of the sizes.
pub mod Counts
pub mod Powers
