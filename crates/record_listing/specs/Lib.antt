-- The machine's summaries and texts in terms of the rules.
pub mod Summary
pub mod Put
pub mod Text
pub mod Starts
