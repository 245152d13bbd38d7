-- What is worked out and read of a layer that is lent, and its progress.
pub mod Burdens
pub mod Worked
pub mod Progress
