-- Laws of values side by side, of the mux tree, of pieces among columns, of the order of the memories, and of what ports add to the log.
pub mod Cutting
pub mod Pairs
pub mod Tree
pub mod ReadCounts
pub mod Masking
pub mod Loading
pub mod Within
pub mod Places
pub mod WriteCounts
pub mod Order
pub mod Stores
pub mod Parts
pub mod WritesCounts
pub mod ReadsCounts
pub mod Whole
