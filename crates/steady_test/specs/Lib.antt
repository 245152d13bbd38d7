-- What the contracts of the steadiness test cite beside the rules.
pub mod Extremes
pub mod Flows
