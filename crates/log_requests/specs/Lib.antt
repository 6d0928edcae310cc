-- The machine's answers to requests, in terms of the rules, and parts of its definitions.
pub mod Answers
pub mod Merged
pub mod Remap
