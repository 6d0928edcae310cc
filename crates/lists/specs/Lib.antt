-- Functions of lists and choices that the definitions of the other crates share.
pub mod Choice
pub mod Lists
pub mod Distinct
pub mod Views
