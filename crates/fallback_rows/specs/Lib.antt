-- The definitions that the contracts of fallback_rows cite.
pub mod Rows
