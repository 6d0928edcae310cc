-- Laws of the numbers 20 and 21, and of emission.
pub mod Rooms
pub mod Emission
pub mod Runs
pub mod Dff
