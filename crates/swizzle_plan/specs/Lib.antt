-- Plans in terms of the rules, and the old wide logs of a memory's ports.
pub mod Calls
pub mod Numbers
