-- Laws of bytes of bits: one step of each loop, and what bytes make of whole arrays.
pub mod Packs
pub mod Groups
pub mod Arrays
