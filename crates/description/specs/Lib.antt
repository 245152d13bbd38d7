-- What the contracts of a description's tests cite beside the rules.
pub mod Lent
pub mod Causes
