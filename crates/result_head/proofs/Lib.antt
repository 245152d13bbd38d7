-- Laws of a result's head.
pub mod HeadLaws
