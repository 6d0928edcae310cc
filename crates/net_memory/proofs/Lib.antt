-- Laws that belong to no one function.
pub mod WideLaws
pub mod Ports
pub mod Sized
pub mod Sums
pub mod Changes
pub mod Outputs
pub mod Fits
