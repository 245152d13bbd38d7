-- Laws of the longest step by index.
pub mod ReachAt
