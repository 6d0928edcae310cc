-- A table's rows as the record of a swizzle's image.
pub mod Split
pub mod View
