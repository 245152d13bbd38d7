-- The laws of floats.
pub mod Quotients
pub mod Comparisons
pub mod Bits
pub mod Ieee754
