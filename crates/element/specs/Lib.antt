-- What the contracts of an element cite beside the rules.
pub mod Elements
