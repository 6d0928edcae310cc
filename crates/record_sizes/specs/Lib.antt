-- The machine's sizes in terms of the rules.
pub mod View
