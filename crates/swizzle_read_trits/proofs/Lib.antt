-- Laws of a clocked read port's trits.
pub mod Puts
pub mod Rules
