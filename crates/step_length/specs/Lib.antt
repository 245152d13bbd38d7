-- What the contracts of the longest step cite beside the rules.
pub mod Reach
