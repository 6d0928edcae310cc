-- What the split of a fallback gives to the log, in closed form.
pub mod Split
