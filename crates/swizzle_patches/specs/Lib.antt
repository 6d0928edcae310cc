-- The definitions that the contract of swizzle_patches cites.
pub mod Joined
