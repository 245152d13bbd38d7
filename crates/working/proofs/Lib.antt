-- What the proofs of the working cite.
pub mod SegmentReads
pub mod Storing
pub mod LayerWords
pub mod Answering
