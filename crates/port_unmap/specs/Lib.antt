-- The definitions that the contracts of port_unmap cite.
pub mod Call
pub mod Ready
pub mod Short
pub mod Trace
