-- What the key does with a job that opening accepts, and the specimen's key.
pub mod KeyLaws
pub mod Layers
pub mod ReadingLaws
pub mod SameKey
pub mod ToldLaws
pub mod Specimen
