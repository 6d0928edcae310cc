-- The table of a text.
pub mod Table
pub mod View
