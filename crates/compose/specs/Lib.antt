-- What the contract of compose cites beside the rules.
pub mod Composed
