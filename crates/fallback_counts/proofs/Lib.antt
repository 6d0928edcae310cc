-- Laws of the counts of a fallback's rows.
pub mod Merged
pub mod Rows
