-- Laws of the emission.
pub mod Behind
