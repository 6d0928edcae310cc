-- What serves proofs and calls that document 01 does not name: a reader need not hold it beside document 01.
pub mod Chain
pub mod Counts
pub mod Decode
pub mod Layouts
pub mod Shape
pub mod Stored
