-- Laws of the pattern.
pub mod Turns
