-- Laws of the read ports' flip-flops.
pub mod Clocks
