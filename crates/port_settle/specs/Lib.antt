-- The definitions that the contracts of port_settle cite.
pub mod Settled
