-- The definitions that the contracts of swizzle_call cite.
pub mod Acted
pub mod Made
pub mod Told
pub mod Whole
pub mod Answer
