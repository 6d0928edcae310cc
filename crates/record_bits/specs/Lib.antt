-- The trits and the errors of a known byte and a value byte.
pub mod Groups
