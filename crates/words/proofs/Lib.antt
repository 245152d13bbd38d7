-- Fields past the last byte, words as bytes, and what one number tells.
pub mod CutFields
pub mod OneNumber
pub mod WordBytes
