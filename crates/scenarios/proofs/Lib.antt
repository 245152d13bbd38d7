-- The proofs of `scenarios`.
pub mod Divided
pub mod Kept
