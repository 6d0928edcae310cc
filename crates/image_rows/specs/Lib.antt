-- The place of an entry as the rules' record, and what the private functions ask and give.
pub mod View
pub mod Steps
