-- What the proofs of the long division cite.
pub mod LayerFaces
pub mod Moving
pub mod Answering
