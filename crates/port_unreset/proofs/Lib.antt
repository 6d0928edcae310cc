-- Laws of the struct and the trits.
pub mod Plain
pub mod View
