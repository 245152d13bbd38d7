-- The weights of a layer, as the functions that work them out have them.
pub mod Weights
