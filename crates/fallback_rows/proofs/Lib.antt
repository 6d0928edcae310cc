-- Laws of the rows as registers.
pub mod Chained
pub mod Rows
pub mod Whole
