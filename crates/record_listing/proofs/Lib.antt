-- Laws of the summaries.
pub mod Starts
pub mod Numbers
pub mod Digits
pub mod Puts
pub mod Memories
pub mod Stored
pub mod Rooms
