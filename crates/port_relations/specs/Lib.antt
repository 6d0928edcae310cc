-- The definitions that the contracts of port_relations cite.
pub mod Clocked
