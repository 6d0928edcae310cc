-- Laws of an emulation.
pub mod Delays
pub mod Bounds
pub mod Rooms
pub mod Number
pub mod Stored
pub mod Ports
pub mod Call
