-- Laws that belong to no one function.
pub mod Planned
pub mod Wides
pub mod WideLogs
pub mod Whole
