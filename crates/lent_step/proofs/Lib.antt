-- A layer that is read so is the record itself.
pub mod Read
