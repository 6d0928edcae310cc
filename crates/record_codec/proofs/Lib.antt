-- Laws of the record's calls.
pub mod Heads
pub mod Writing
pub mod Arrays
pub mod Reading
pub mod Whole
pub mod RoundTrips
