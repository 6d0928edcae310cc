-- Laws of the numbers before the log's, and of a call's answer.
pub mod Numbers
pub mod Answers
pub mod Merged
pub mod Remap
