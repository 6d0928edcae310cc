-- What the rows of a fallback give to the log, in closed form.
pub mod Counts
