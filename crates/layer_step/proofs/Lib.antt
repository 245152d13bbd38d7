-- Laws of a moving layer as arrays hold it.
pub mod MovingAt
