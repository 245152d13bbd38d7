-- Laws of fields read, of runs of stores, and of signed numbers.
pub mod Reading
pub mod Signed
pub mod Stores
