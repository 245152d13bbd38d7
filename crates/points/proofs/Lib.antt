-- Laws of what a curve covers.
pub mod Covers
