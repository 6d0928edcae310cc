-- Laws that the proofs of the functions cite.
pub mod Bits
pub mod Walking
pub mod Carrying
pub mod Sizing
pub mod Fields
