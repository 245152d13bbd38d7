-- What the contracts of the faces cite beside the rules.
pub mod Faces
