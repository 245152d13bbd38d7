-- What the contracts of a pass and of the loop cite beside the rules.
pub mod Passing
