-- The meaning of a float's bits.
pub mod Binary32
pub mod Ieee754
