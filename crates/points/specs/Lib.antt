-- What the contracts of points cite beside the rules.
pub mod Checks
