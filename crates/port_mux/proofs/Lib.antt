-- Laws of transparency_mux.
pub mod Numbers
pub mod Passed
pub mod Act
