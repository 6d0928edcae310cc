-- The definitions that the contracts of port_delay cite.
pub mod Delay
pub mod Room
