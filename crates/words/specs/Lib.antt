-- What the contracts of words cite beside the rules.
pub mod Words
