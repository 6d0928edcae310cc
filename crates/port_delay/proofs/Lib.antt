-- Laws of a delayed port.
pub mod Delay
