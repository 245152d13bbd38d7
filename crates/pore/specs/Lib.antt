-- What the contracts of pore cite beside the rules.
pub mod Pore
