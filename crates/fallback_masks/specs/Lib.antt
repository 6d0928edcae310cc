-- The counts of a fallback's rows, by the masks of its memory.
pub mod Sizes
pub mod Steps
