-- What the contracts of a start cite beside the rules.
pub mod Rest
