-- What the proofs of the fifth program cite.
pub mod Writing
