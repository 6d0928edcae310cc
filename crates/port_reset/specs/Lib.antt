-- The definitions that the contracts of port_reset cite.
pub mod Call
pub mod Ready
