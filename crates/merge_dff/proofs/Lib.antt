-- The laws of packed keys, and of the merge over them.
pub mod Packing
pub mod Keys
pub mod Dff
pub mod Call
