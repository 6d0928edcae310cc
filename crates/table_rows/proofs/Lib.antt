-- Laws of the rows of an image.
pub mod Reading
pub mod Back
