-- Extraction of read ports on a machine's memory.
pub mod Extract
