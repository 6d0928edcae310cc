-- Laws of the room that a result takes, and of the numbers that the code counts by.
pub mod Shared
pub mod Numbers
pub mod Masks
pub mod Meant
pub mod Sums
pub mod Refusing
pub mod Rowed
pub mod Empty
