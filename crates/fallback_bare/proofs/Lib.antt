-- Laws of a memory without flip-flops.
pub mod Bare
