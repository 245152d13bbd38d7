-- What the contracts of the layer cite beside the rules.
pub mod Held
pub mod Segments
pub mod Soil
