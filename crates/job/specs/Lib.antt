-- What the contracts of job cite beside the rules.
pub mod Framing
pub mod Pairs
