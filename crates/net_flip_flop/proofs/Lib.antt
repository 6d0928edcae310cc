-- Laws of the words of controls.
pub mod Words
