-- The definitions that the contracts of port_reset_emit cite.
pub mod Behind
pub mod Room
