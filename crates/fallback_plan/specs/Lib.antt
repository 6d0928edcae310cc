-- The definitions that the contracts of fallback_plan cite.
pub mod Lists
