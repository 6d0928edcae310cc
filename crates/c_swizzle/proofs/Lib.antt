-- Laws of the structs: the way back, and what an answer's struct says.
pub mod Back
pub mod Told
