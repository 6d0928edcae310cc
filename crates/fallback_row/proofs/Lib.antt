-- Laws of the parts of a row's register.
pub mod Register
