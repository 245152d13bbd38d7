-- Laws of a job's counts, of what is read of it, and of the causes 1 to 4.
pub mod Counts
pub mod Reading
pub mod FirstCause
pub mod FramingLaws
