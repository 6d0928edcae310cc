-- Laws of the conversion: arrays that are filled place by place, the way back, and an extraction's struct.
pub mod Each
pub mod Back
pub mod Extracts
