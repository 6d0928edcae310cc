-- Laws that the proofs of the functions cite.
pub mod Sizing
pub mod Cursors
pub mod Runs
pub mod Taking
pub mod Patching
pub mod Filling
pub mod Reading
