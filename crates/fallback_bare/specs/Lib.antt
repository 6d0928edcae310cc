-- The definitions that the contracts of fallback_bare cite.
pub mod Bare
