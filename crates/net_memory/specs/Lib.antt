-- The machine's memory, as it is held and as a call is given it, and its wide logs in terms of the rules.
pub mod FlipFlop
pub mod Wide
pub mod View
pub mod Given
pub mod Ports
