-- What the contracts of curves cite beside the rules.
pub mod Smooth
pub mod Named
