-- Laws of a run on a layer.
pub mod RunLaws
