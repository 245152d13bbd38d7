-- Laws of a pass, and of the loop that takes it.
pub mod Given
pub mod Turned
pub mod Reached
pub mod OnePass
