-- Laws of the rows read back.
pub mod Ends
pub mod Trip
pub mod Heads
pub mod Laws
pub mod Mapped
