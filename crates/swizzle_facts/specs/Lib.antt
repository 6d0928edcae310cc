-- What number 0 of a swizzle says of its layout and of each port.
pub mod Passed
