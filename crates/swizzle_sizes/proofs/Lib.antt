-- Laws that belong to no one function.
pub mod Refused
pub mod Answered
pub mod Turns
