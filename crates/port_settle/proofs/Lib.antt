-- Laws of a settled memory.
pub mod Changed
pub mod View
