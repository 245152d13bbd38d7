-- The proofs of `consolidate`.
pub mod Program
