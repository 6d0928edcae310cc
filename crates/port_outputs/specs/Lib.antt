-- A port's part of the outputs.
pub mod View
