-- Laws of the write ports.
pub mod Rooms
pub mod Steps
pub mod Planned
pub mod Whole
