-- The trits of a clocked read port.
pub mod Trits
