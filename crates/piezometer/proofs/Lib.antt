-- The proofs of `piezometer`.
pub mod Answering
