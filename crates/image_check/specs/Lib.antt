-- Marks of bits, and what the crate's enum is in terms of the rules.
pub mod Marks
pub mod View
