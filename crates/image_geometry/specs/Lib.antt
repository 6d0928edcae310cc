-- What the crate's structs are in terms of the rules, and what its private functions ask and give.
pub mod View
pub mod Steps
