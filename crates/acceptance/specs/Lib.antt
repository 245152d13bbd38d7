-- What the contracts of an acceptance cite beside the rules.
pub mod Accepting
