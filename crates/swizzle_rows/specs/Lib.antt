-- The definitions that the contracts of swizzle_rows cite.
pub mod Rows
