-- What a refused opening leaves.
pub mod NoLayer
