-- Laws that belong to no one function.
pub mod Kept
pub mod View
pub mod Outputs
pub mod Refused
pub mod Stored
pub mod Answered
