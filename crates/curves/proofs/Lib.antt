-- Laws of reading a curve by index.
pub mod Segments
pub mod SmoothCurves
