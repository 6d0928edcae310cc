-- The call format: a case's words read, and the answer's words as the rules give them.
pub mod Read
pub mod Wire
