-- Laws of the read ports of a swizzle.
pub mod Steps
pub mod Lengths
pub mod Layouts
pub mod Ported
pub mod Fitting
pub mod Loop
pub mod Start
pub mod Whole
pub mod Holding
pub mod Planned
