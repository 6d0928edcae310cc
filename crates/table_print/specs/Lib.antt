-- The rows of a table as text.
pub mod Rows
pub mod Header
