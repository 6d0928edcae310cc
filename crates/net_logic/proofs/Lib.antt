-- Laws that several functions cite.
pub mod Codes
pub mod Parts
pub mod Rooms
