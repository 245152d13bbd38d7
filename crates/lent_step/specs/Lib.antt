-- What the contracts of a step cite beside the rules.
pub mod Answers
pub mod Read
