-- Laws of the answers' structs.
pub mod Drives
pub mod Overlaid
