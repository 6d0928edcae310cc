-- The state as the rules' layout, and what a private function asks.
pub mod View
pub mod Counts
