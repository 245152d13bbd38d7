-- A record that is a layer: what its arrays give to the functions that are lent them, and what calls on it answer.
pub mod Standing
pub mod CallLaws
pub mod LayerReads
pub mod StepLaws
