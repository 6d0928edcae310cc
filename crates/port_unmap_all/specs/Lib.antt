-- The definitions that the contracts of port_unmap_all cite.
pub mod All
