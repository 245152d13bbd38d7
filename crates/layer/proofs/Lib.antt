-- Laws of the layer by index.
pub mod ReadAt
pub mod SegmentsAt
pub mod StepAt
