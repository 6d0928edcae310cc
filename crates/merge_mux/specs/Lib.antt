-- The definitions that the contracts of merge_mux cite.
pub mod Results
pub mod Runs
