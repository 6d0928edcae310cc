-- The rows in which two tables differ, as text.
pub mod Differ
