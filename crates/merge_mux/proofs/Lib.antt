-- Laws of merges.
pub mod Spread
pub mod Limited
pub mod Nets
pub mod Mux
pub mod RunLaws
pub mod Bitwise
pub mod Numbers
pub mod Most
