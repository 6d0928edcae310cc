-- Laws of the machines that read a table's text.
pub mod Runs
pub mod Closed
