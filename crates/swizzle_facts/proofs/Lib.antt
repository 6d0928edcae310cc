-- Laws of what number 0 of a swizzle says: of its layout, of a split, and of every port.
pub mod Layouts
pub mod Splits
pub mod Ports
pub mod Counting
