-- Laws that the proofs of the functions cite.
pub mod Marking
pub mod Runs
pub mod Telling
