-- Laws of a result's elements: their ranges and their bytes.
pub mod Ranges
pub mod Elements
