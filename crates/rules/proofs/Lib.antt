-- What is proved of the rules here: the least water at rest, the specimen's table, and those of notes 3 and 4.
pub mod Points
pub mod Falling
pub mod Sound
pub mod Resting
pub mod Specimen
pub mod Artesian
pub mod LongDivision
