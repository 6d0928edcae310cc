-- Laws of the table of a text.
pub mod Tables
