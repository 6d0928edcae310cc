-- The machine's flip-flops in terms of the rules.
pub mod View
