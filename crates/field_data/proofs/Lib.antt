-- The laws of readings and answers as words.
pub mod WordLaws
