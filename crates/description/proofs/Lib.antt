-- Laws of the tests of a description.
pub mod FieldLaws
pub mod Checking
