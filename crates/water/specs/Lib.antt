-- What the contracts of moving water cite beside the rules.
pub mod Water
