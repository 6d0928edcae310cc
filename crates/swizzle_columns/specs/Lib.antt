-- What the functions over columns ask and give.
pub mod Steps
pub mod Rows
pub mod Jobs
pub mod Matches
pub mod Wide
