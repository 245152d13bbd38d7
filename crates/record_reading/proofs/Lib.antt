-- The laws of a reading on a record.
pub mod ComparedLaws
