-- Laws of the bytes of a job, of writing them, and of reading them again.
pub mod Stores
pub mod WritingLaws
pub mod Counted
pub mod Fields
pub mod ReadAgain
pub mod WrittenAgain
pub mod RoundTrips
