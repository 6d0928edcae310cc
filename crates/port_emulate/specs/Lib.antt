-- The definitions that the contracts of port_emulate cite.
pub mod Delays
