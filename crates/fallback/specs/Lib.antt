-- The definitions that the contracts of fallback cite.
pub mod Split
pub mod Refusal
pub mod Answer
