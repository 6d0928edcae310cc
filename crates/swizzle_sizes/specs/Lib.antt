-- `swizzle_mux_bits` on a machine's memory and plan.
pub mod Calls
