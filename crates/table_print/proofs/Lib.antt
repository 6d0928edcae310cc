-- The text of rows reads back.
pub mod Back
pub mod Numbers
pub mod RoundTrip
pub mod Putting
