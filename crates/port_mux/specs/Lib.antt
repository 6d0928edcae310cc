-- The definitions that the contracts of port_mux cite.
pub mod Call
