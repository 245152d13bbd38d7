-- What contracts cite of the rules' laws: bounds of what a step reads, and what holds of lists and faces.
pub mod Every
pub mod Segment
pub mod Bounds
pub mod Amid
pub mod Most
pub mod Faces
pub mod Shorten
pub mod Divisions
