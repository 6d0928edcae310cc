-- The definitions that the contracts of port_transparency cite.
pub mod Gave
pub mod Pairs
pub mod Room
