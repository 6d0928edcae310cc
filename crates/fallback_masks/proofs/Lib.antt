-- Laws of the rows of a fallback: what each of them is, and how many words and nets they give.
pub mod Bare
pub mod Wide
pub mod Rows
pub mod Alike
pub mod Stores
pub mod Masks
pub mod Sums
pub mod Counts
pub mod Numbers
pub mod Closed
