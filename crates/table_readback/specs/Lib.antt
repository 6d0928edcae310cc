-- The rows of a record as text, or compared with a table.
pub mod Back
pub mod View
