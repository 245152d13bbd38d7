-- What the contracts of `scenarios` cite.
pub mod Divisions
