-- Laws of the water of an opened layer, as arrays hold it.
pub mod Ends
pub mod Given
pub mod AtRest
pub mod Heights
pub mod Filling
pub mod Opened
