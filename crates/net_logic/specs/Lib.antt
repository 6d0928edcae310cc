-- The machine's trits and answers in terms of the rules.
pub mod View
