-- A swizzle that no number refuses: its tests one by one, what the write ports and the read ports ask for, its log, and its result.
pub mod Tests
pub mod Sizes
pub mod Planned
pub mod Runs
pub mod Shares
pub mod HeldWrites
pub mod Joined
pub mod Scratch
