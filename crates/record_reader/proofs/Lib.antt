-- Laws of words and trits at a place.
pub mod Arrays
pub mod Firsts
pub mod Heads
pub mod Places
pub mod Runs
