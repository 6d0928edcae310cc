-- The numbers of a machine's memory port by port.
pub mod Number
