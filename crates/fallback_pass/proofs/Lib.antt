-- Laws of the split of a memory without flip-flops by the plan of a fallback.
pub mod Growth
pub mod Shapes
pub mod Lens
pub mod Number
pub mod Rooms
pub mod Refusal
pub mod Kept
pub mod Unmapped
pub mod Counts
pub mod Most
pub mod Few
