-- The proofs of `compose`.
pub mod Composing
