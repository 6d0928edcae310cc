-- The machine's controls in terms of the rules.
pub mod View
