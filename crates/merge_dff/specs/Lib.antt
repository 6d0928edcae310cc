-- The definitions that the contracts of merge_dff cite.
pub mod Packs
pub mod Room
