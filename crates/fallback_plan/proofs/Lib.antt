-- Laws of the plan of a fallback.
pub mod Logs
pub mod Numbers
pub mod Spots
pub mod Pieces
pub mod Needs
pub mod Listed
