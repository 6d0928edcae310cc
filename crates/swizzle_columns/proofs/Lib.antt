-- Laws of the functions over columns.
pub mod Cursors
pub mod Rows
pub mod Walks
pub mod Ports
pub mod Rules
pub mod Arrange
pub mod Trits
pub mod Fits
pub mod Portal
pub mod Meaning
