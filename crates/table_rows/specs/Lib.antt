-- The rows of an image.
pub mod Rows
