-- What the contracts of a result's elements cite beside the rules.
pub mod Elements
