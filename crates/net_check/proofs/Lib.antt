-- Laws that belong to no one function.
pub mod Tests
pub mod Numbers
pub mod Ports
pub mod Sizes
pub mod Accept
