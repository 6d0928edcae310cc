-- `make_data_swizzle` on a machine's memory.
pub mod Calls
