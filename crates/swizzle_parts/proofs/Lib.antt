-- Laws that belong to no one function.
pub mod Sized
pub mod Powers
pub mod Found
pub mod Depths
pub mod Outs
pub mod Cuts
