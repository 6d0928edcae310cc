-- The definitions that the contracts of fallback_row cite.
pub mod Row
