-- Laws of the fallback.
pub mod Plans
pub mod Made
pub mod Total
pub mod Numbers
pub mod Acts
pub mod Answer
