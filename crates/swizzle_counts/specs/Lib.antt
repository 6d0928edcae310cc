-- What a swizzle of rows asks for, in closed form, and its refusal by that.
pub mod Rooms
pub mod Needs
pub mod Refusal
