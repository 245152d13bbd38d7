-- What the contracts of readings cite beside the rules.
pub mod Conversion
