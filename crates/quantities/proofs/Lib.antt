-- What follows from a quantity's limits.
pub mod Limits
