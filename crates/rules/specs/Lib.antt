-- The rules of document 01: what a memory is, what each call asks for and gives, and which number refuses it.
-- `Beside` has what is not document 01.
pub mod Limits
pub mod Numbers
pub mod Logic
pub mod Value
pub mod Cell
pub mod Log
pub mod Merge
pub mod Ports
pub mod Geometry
pub mod Image
pub mod Swizzle
pub mod Fallback
pub mod Record
pub mod Conditions
pub mod Refusals
pub mod Patch
pub mod Lister
pub mod Answers
pub mod Refusal
pub mod Examples
pub mod Beside
