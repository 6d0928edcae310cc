-- The definitions that the contracts of port_empty cite.
pub mod Empty
