-- Laws that the proofs of the functions cite.
pub mod Laying
pub mod Counting
