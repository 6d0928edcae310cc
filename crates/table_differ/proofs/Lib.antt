-- Laws of the rows that differ.
pub mod Lines
