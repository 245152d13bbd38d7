-- What the contracts of a moving layer cite beside the rules.
pub mod Moving
