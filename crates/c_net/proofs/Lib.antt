-- Laws of lists in lent room, and of what is no control.
pub mod Listed
pub mod NoControl
