-- What the contracts of an opening cite beside the rules.
pub mod Opened
