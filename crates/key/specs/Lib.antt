-- What the C functions leave in what they are lent, beside the rules.
pub mod Water
pub mod Readings
