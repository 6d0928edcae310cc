-- Laws of the unmapping of all read ports.
pub mod Bare
pub mod Fold
pub mod Short
pub mod Walk
pub mod Port
pub mod Rules
