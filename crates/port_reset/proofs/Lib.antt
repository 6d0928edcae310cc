-- Laws of the call.
pub mod Numbers
pub mod Bounds
pub mod Port
pub mod Act
pub mod Passed
