-- Laws of the struct of a fallback's rows.
pub mod Ports
pub mod Structs
