-- The definitions that the contracts of port_unreset cite.
pub mod Struct
