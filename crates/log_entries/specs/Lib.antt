-- The machine's log state, and what emission leaves in it and in a lent log.
pub mod Emission
pub mod View
