-- What an answer's struct says.
pub mod Told
