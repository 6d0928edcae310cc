-- The definitions that the contracts of merge_keys cite.
pub mod Columns
pub mod Keys
