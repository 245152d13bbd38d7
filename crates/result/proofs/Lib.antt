-- The laws of a result.
pub mod ResultLaws
