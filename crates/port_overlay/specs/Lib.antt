-- The definitions that the contracts of port_overlay cite.
pub mod Laid
