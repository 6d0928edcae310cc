-- The whole refusal by its tests.
pub mod Joined
