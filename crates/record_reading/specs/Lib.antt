-- What the contracts of record_reading cite beside the rules.
pub mod Comparison
