-- Laws of the call.
pub mod Port
pub mod Short
pub mod Act
pub mod Rooms
pub mod Passed
pub mod Emitted
