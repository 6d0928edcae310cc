-- Laws that belong to no one function.
pub mod Slices
pub mod Padding
pub mod Changes
pub mod Entries
pub mod Answered
