-- What the contracts of the long division cite beside the rules.
pub mod Dividing
pub mod Entries
