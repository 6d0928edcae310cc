-- Laws of the record of a table's text.
pub mod Records
pub mod Swizzled
pub mod Parsed
pub mod Written
pub mod Mapped
