-- Lists of calls in memory.
pub mod Calls
