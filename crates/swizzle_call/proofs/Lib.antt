-- Laws of the swizzle after its refusal.
pub mod Cases
pub mod Images
pub mod Logs
pub mod Fronts
pub mod Answer
